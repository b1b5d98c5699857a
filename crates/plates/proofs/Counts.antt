-- One count before the others: its new bounds are the least and the greatest that it can have.
use Rattle.std.proofs.Common.{◌≡◌, ℕ, zero, suc, ◌+◌, ◌-◌, ◌<◌, ◌≤◌, min, max, Bool, true, false, cond, ◌&&◌, ltb, leb, ◌⊎◌, List, ◌∷◌, refl, inl, inr, arith}
use Rattle.std.proofs.lemmas.Bool.{leb-true, leb-false, ltb-true, ltb-false, and_parts, and_cases, cases_lt, cond_both}
use Rattle.bounds.specs.declared.row.Row.{Row}
use Rattle.bounds.specs.Boards.{sound}
use Rattle.plates.specs.Form.{certain, optional, low_sum, top, reach, frame_at, low_of, high_of}
use Rattle.plates.proofs.Tops.{row, top_zero, top_up, top_mono, top_leaves, top_certain, top_absent, top_full, top_concave}
use Rattle.plates.proofs.Sums.{room}

-- a filling of the counts can have k optional counts present
pub record Possible (s v : Row) (cs : List Row) (k : ℕ) : Type 0 where
  pub exist : k ≤ optional cs
  pub enough : v.low ≤ certain cs + k
  pub few : certain cs + k ≤ v.high
  pub light : low_sum cs + k ≤ s.high
  pub heavy : s.low ≤ reach cs k

-- the possible k are from k1 to k2
pub record Span (s v : Row) (cs : List Row) (k1 k2 : ℕ) : Type 0 where
  pub first : Possible s v cs k1
  pub last : Possible s v cs k2
  pub between : (k : ℕ) → Possible s v cs k → (k1 ≤ k) × (k ≤ k2)

test_true : (a b c d : ℕ) → (ltb a b && leb c d) ≡ true → (a < b) × (c ≤ d)
test_true a b c d e = let p = and_parts _ _ e in (ltb-true a b p.0, leb-true c d p.1)

test_false : (a b c d : ℕ) → (ltb a b && leb c d) ≡ false → (b ≤ a) ⊎ (d < c)
test_false a b c d e = elim (and_cases _ _ e) [ inl p ↦ inl (ltb-false a b p) | inr p ↦ inr (leb-false c d p) ]

none_of : (a b : Bool) (x y : ℕ) → x ≡ 0 → y ≡ 0 → cond a x (cond b y 0) ≡ 0
none_of true b x y p q = p
none_of false true x y p q = q
none_of false false x y p q = refl

module _ (s v : Row) (cs : List Row) where
  -- with the count n in front
  abbrev pub At : ℕ → ℕ → Type 0
  At n k = Possible s v (row n n ∷ cs) k

  at_none : (k : ℕ) → Possible s v cs k → At 0 k
  at_none k p = record { exist = omega arith; enough = omega arith; few = omega arith; light = omega arith; heavy = omega (arith, top_absent cs k) }

  at_some : (n k : ℕ) → 0 < n → k ≤ optional cs → v.low ≤ certain cs + suc k → certain cs + suc k ≤ v.high
      → n + (low_sum cs + k) ≤ s.high → s.low ≤ n + reach cs k → At n k
  at_some zero k z a b c d e = absurd (omega arith)
  at_some (suc n) k z a b c d e = record { exist = omega arith; enough = omega arith; few = omega arith; light = omega arith; heavy = omega (arith, top_certain n (suc n) cs k) }

  abbrev pub Low : ℕ → ℕ → ℕ → ℕ → ℕ
  Low l h k1 k2 = low_of (frame_at s (row l h ∷ cs) k1 k2) l h

  abbrev pub High : ℕ → ℕ → ℕ → ℕ → ℕ
  High l h k1 k2 = high_of (frame_at s (row l h ∷ cs) k1 k2) l h

  abbrev pub Held : ℕ → ℕ → ℕ → ℕ → ℕ → ℕ → Type 0
  Held l h k1 k2 x k = (Low l h k1 k2 ≤ x) × (x ≤ High l h k1 k2)

  abbrev pub Has : ℕ → ℕ → ℕ → Type 0
  Has l h n = (k : ℕ) × (l ≤ n) × (n ≤ h) × At n k

  module _ (sd : sound cs ≡ true) (ss : s.low ≤ s.high) where
    -- a certain count
    module _ (l h : ℕ) (lh : suc l ≤ h) (k1 k2 : ℕ) (sp : Span s v (row (suc l) h ∷ cs) k1 k2) where
      certain_held : (x k : ℕ) → suc l ≤ x → x ≤ h → At x k → Held (suc l) h k1 k2 x k
      certain_held zero k p q a = absurd (omega arith)
      certain_held (suc x) k p q a =
          let e = top_certain l h cs k in let f = top_certain x (suc x) cs k in
          let w = sp.between k (record { exist = a.exist; enough = a.enough; few = a.few; light = omega arith; heavy = omega arith }) in
          (omega (arith, top_certain l h cs k2, top_mono cs k k2 (omega arith)), omega arith)

      certain_low : Has (suc l) h (Low (suc l) h k1 k2)
      certain_low =
          let e = top_certain l h cs k2 in let p = sp.last in let w = room cs sd k2 (omega arith) in
          (k2, omega arith, omega arith, at_some _ k2 (omega arith) (omega arith) (omega arith) (omega arith) (omega arith) (omega arith))

      certain_high : Has (suc l) h (High (suc l) h k1 k2)
      certain_high =
          let e = top_certain l h cs k1 in let p = sp.first in let w = room cs sd k1 (omega arith) in
          (k1, omega arith, omega arith, at_some _ k1 (omega arith) (omega arith) (omega arith) (omega arith) (omega arith) (omega arith))

    -- an absent count
    module _ (k1 k2 : ℕ) (sp : Span s v (row 0 0 ∷ cs) k1 k2) where
      absent_high_zero : High 0 0 k1 k2 ≡ 0
      absent_high_zero =
          let d = low_sum (row 0 0 ∷ cs) + k1 in
          none_of (ltb 0 k1 && leb s.low (0 + reach (row 0 0 ∷ cs) (k1 - 1))) (ltb k1 k2) (min 0 ((s.high + 1) - d)) (min 0 (s.high - d)) (omega arith) (omega arith)

      absent_high : Has 0 0 (High 0 0 k1 k2)
      absent_high = rw absent_high_zero (k1, omega arith, omega arith, sp.first)

    -- an optional count
    abbrev Opt : ℕ → List Row
    Opt h = row 0 (suc h) ∷ cs

    module _ (h : ℕ) (k1 k2 : ℕ) (sp : Span s v (Opt h) k1 k2) where
      optional_held : (x k : ℕ) → x ≤ suc h → At x k → Held 0 (suc h) k1 k2 x k
      optional_held zero k q a =
          let e = top_absent cs k in
          let w = sp.between k (record { exist = omega arith; enough = omega arith; few = omega arith; light = omega arith; heavy = omega (arith, top_leaves (row 0 (suc h)) cs k) }) in (
            cond_both (ltb k1 (optional (Opt h)) && leb (s.low + suc h) (reach (Opt h) (suc k2))) 0 _ (λ n. n ≤ 0) (λ _. omega arith)
                (λ t. absurd (omega (arith, test_false k1 (optional (Opt h)) (s.low + suc h) (reach (Opt h) (suc k2)) t, top_mono cs k k2 (omega arith)))),
            omega arith,
          )
      optional_held (suc x) k q a =
          let e = top_certain x (suc x) cs k in
          let w = sp.between (suc k) (record { exist = omega arith; enough = omega arith; few = omega arith; light = omega arith; heavy = omega arith }) in
          let m = top_mono (Opt h) (suc k) k2 (omega arith) in
          let u : (k1 ≤ k) ⊎ ((0 < k1) × (s.low ≤ suc h + reach (Opt h) (k1 - 1))) = elim (cases_lt k k1)
          [ inl y ↦ inr (omega arith, omega (arith, top_mono (Opt h) k (k1 - 1) (omega arith), top_leaves (row 0 (suc h)) cs k)) | inr y ↦ inl y ] in
          let b = s.low + suc h in let c = reach (Opt h) in let d = low_sum (Opt h) in (
            cond_both (ltb k1 (optional (Opt h)) && leb b (c (suc k2))) 0 (max 1 (b - c k2)) (λ n. n ≤ suc x) (λ _. omega arith) (λ _. omega arith),
            cond_both (ltb 0 k1 && leb s.low (suc h + c (k1 - 1))) (min (suc h) ((s.high + 1) - (d + k1))) _ (λ n. suc x ≤ n) (λ _. omega arith)
                (λ t. let y = test_false 0 k1 s.low (suc h + c (k1 - 1)) t in
                cond_both (ltb k1 k2) (min (suc h) (s.high - (d + k1))) 0 (λ n. suc x ≤ n) (λ _. omega arith) (λ z. absurd (omega (arith, ltb-false k1 k2 z)))),
          )

    lighter : (h k : ℕ) → s.low ≤ reach (Opt h) k → s.low + suc h ≤ reach (Opt h) (suc k) → s.low ≤ reach cs k
    lighter h zero p q = omega arith
    lighter h (suc k) p q = omega (arith, top_concave cs k)

    module _ (h : ℕ) where
      optional_out : (k1 k2 : ℕ) → Span s v (Opt h) k1 k2 → k1 < optional (Opt h) → s.low + suc h ≤ reach (Opt h) (suc k2) → Has 0 (suc h) 0
      optional_out k1 k2 sp p q = elim (cases_lt (optional cs) k2) [
        | inl u ↦ let k = optional cs in let a = sp.first in let b = sp.last in
            let f = top_full cs k2 (omega arith) in let g = top_full cs k (omega arith) in let m = top_mono cs k2 (suc k) (omega arith) in
            let w = sp.between k1 a in
            (k, omega arith, omega arith, at_none k (record { exist = omega arith; enough = omega arith; few = omega arith; light = omega arith; heavy = omega arith }))
        | inr u ↦ let b = sp.last in
            (k2, omega arith, omega arith, at_none k2 (record { exist = u; enough = omega arith; few = omega arith; light = omega arith; heavy = lighter h k2 b.heavy q }))
      ]

      optional_in : (k1 k2 : ℕ) → Span s v (Opt h) k1 k2 → (optional (Opt h) ≤ k1) ⊎ (reach (Opt h) (suc k2) < s.low + suc h)
          → Has 0 (suc h) (max 1 ((s.low + suc h) - reach (Opt h) k2))
      optional_in k1 zero sp t = let b = sp.last in let w = sp.between k1 sp.first in absurd (omega (arith, top_zero cs))
      optional_in k1 (suc j) sp t =
          let b = sp.last in let w = sp.between k1 sp.first in
          let e : top (Opt h) (suc j) ≡ suc h + top cs j = elim t [ inl p ↦ omega (arith, top_full cs j (omega arith)) | inr p ↦ omega arith ] in
          let r = room cs sd j (omega arith) in
          (j, omega arith, omega arith, at_some _ j (omega arith) (omega arith) (omega arith) (omega arith) (omega arith) (omega arith))

      optional_low : (k1 k2 : ℕ) → Span s v (Opt h) k1 k2 → Has 0 (suc h) (Low 0 (suc h) k1 k2)
      optional_low k1 k2 sp = cond_both _ _ _ (Has 0 (suc h))
          (λ t. let p = test_true k1 (optional (Opt h)) (s.low + suc h) (reach (Opt h) (suc k2)) t in optional_out k1 k2 sp p.0 p.1)
          (λ t. optional_in k1 k2 sp (test_false k1 (optional (Opt h)) (s.low + suc h) (reach (Opt h) (suc k2)) t))

      heavier : (j : ℕ) → s.low ≤ reach (Opt h) (suc j) → s.low ≤ suc h + reach (Opt h) j → s.low ≤ suc h + reach cs j
      heavier zero p q = omega arith
      heavier (suc j) p q = omega (arith, top_concave cs j)

      -- with the fewest present
      optional_first : (k1 k2 : ℕ) → Span s v (Opt h) k1 k2 → 0 < k1 → s.low ≤ suc h + reach (Opt h) (k1 - 1)
          → Has 0 (suc h) (min (suc h) ((s.high + 1) - (low_sum (Opt h) + k1)))
      optional_first zero k2 sp p q = absurd (omega arith)
      optional_first (suc j) k2 sp p q =
          let a = sp.first in let e : suc j - 1 ≡ j = omega arith in
          let y : s.low ≤ suc h + reach (Opt h) j = rw e at q in
          let z = heavier j a.heavy y in
          let r = room cs sd j (omega arith) in
          (j, omega arith, omega arith, at_some _ j (omega arith) (omega arith) (omega arith) (omega arith) (omega arith) (omega arith))

      below : (k : ℕ) → top (Opt h) k ≤ suc h + top cs k
      below zero = omega arith
      below (suc k) = omega (arith, top_up cs k)

      -- with one more
      optional_second : (k1 k2 : ℕ) → Span s v (Opt h) k1 k2 → k1 < k2 → Has 0 (suc h) (min (suc h) (s.high - (low_sum (Opt h) + k1)))
      optional_second k1 k2 sp p =
          let a = sp.first in let b = sp.last in let u = below k1 in let r = room cs sd k1 (omega arith) in
          (k1, omega arith, omega arith, at_some _ k1 (omega arith) (omega arith) (omega arith) (omega arith) (omega arith) (omega arith))

      optional_third : (k1 k2 : ℕ) → Span s v (Opt h) k1 k2 → (k1 ≤ 0) ⊎ (suc h + reach (Opt h) (k1 - 1) < s.low) → k2 ≤ k1 → Has 0 (suc h) 0
      optional_third zero k2 sp t p =
          let a = sp.first in
          (0, omega arith, omega arith, at_none 0 (record { exist = omega arith; enough = omega arith; few = omega arith; light = omega arith; heavy = omega arith }))
      optional_third (suc j) k2 sp t p =
          let a = sp.first in let e : suc j - 1 ≡ j = omega arith in
          let y : (suc j ≤ 0) ⊎ (suc h + reach (Opt h) j < s.low) = rw e at t in
          let z = top_leaves (row 0 (suc h)) cs j in
          let o : suc j ≤ optional cs = elim (cases_lt j (optional cs)) [ inl u ↦ u | inr u ↦ absurd (omega (arith, top_full cs j u)) ] in
          (suc j, omega arith, omega arith, at_none (suc j) (record { exist = o; enough = omega arith; few = omega arith; light = omega arith; heavy = omega arith }))

      optional_high : (k1 k2 : ℕ) → Span s v (Opt h) k1 k2 → Has 0 (suc h) (High 0 (suc h) k1 k2)
      optional_high k1 k2 sp = cond_both _ _ _ (Has 0 (suc h))
          (λ t. let p = test_true 0 k1 s.low (suc h + reach (Opt h) (k1 - 1)) t in optional_first k1 k2 sp p.0 p.1)
          (λ t. let y = test_false 0 k1 s.low (suc h + reach (Opt h) (k1 - 1)) t in
          cond_both (ltb k1 k2) _ _ (Has 0 (suc h)) (λ u. optional_second k1 k2 sp (ltb-true k1 k2 u)) (λ u. optional_third k1 k2 sp y (ltb-false k1 k2 u)))

    pub held : (l h k1 k2 : ℕ) → Span s v (row l h ∷ cs) k1 k2 → (x k : ℕ) → l ≤ x → x ≤ h → At x k → Held l h k1 k2 x k
    held zero zero k1 k2 sp x k p q a = (omega arith, omega arith)
    held zero (suc h) k1 k2 sp x k p q a = optional_held h k1 k2 sp x k q a
    held (suc l) h k1 k2 sp x k p q a = certain_held l h (omega arith) k1 k2 sp x k p q a

    pub has_low : (l h k1 k2 : ℕ) → l ≤ h → Span s v (row l h ∷ cs) k1 k2 → Has l h (Low l h k1 k2)
    has_low zero zero k1 k2 p sp = (k1, omega arith, omega arith, sp.first)
    has_low zero (suc h) k1 k2 p sp = optional_low h k1 k2 sp
    has_low (suc l) h k1 k2 p sp = certain_low l h p k1 k2 sp

    pub has_high : (l h k1 k2 : ℕ) → l ≤ h → Span s v (row l h ∷ cs) k1 k2 → Has l h (High l h k1 k2)
    has_high zero zero k1 k2 p sp = absent_high k1 k2 sp
    has_high zero (suc h) k1 k2 p sp = optional_high h k1 k2 sp
    has_high (suc l) h k1 k2 p sp = certain_high l h p k1 k2 sp
