-- A loop that adds up the rows, the last first.
use Rattle.std.proofs.Common.{◌≡◌, ℕ, zero, suc, ◌+◌, ◌-◌, ◌*◌, ◌<◌, ◌≤◌, max, List, [], ◌∷◌, ◌++◌, reverse, length, length-append, get_or, set, get_or-set_other, get_or-set_same, sym, ap, ◌∙◌, subst, subst₂, inl, inr, arith}
use Rattle.std.proofs.lemmas.List.{reverse-append}
use Rattle.std.proofs.lemmas.Bool.{cases_lt}
use Rattle.bounds.specs.declared.row.Row.{Row}
use Rattle.plates.specs.declared.frame.Sums.{Sums}
use Rattle.plates.specs.Form.{top}
use Rattle.plates.specs.Work.{Admitted, Concave, Summed, Topped, gap}
use Rattle.plates.proofs.Tops.{row, top_zero, top_certain, top_absent, top_full, top_concave}

abbrev pub Added : List Row → List ℕ → Sums → ℕ → Type 0
Added cs t s n = Summed cs s n × Topped cs t s n

abbrev pub sums : ℕ → ℕ → ℕ → ℕ → Sums
sums c o l b = record { certain = c; optional = o; lows = l; base = b }

-- what is no gain is none among fewer
no_gain : (t : List ℕ) (n h k : ℕ) → Concave t n → k < n → get_or t k 0 + h ≤ get_or t (k + 1) 0 → (d j : ℕ) → j + d ≡ k → get_or t j 0 + h ≤ get_or t (j + 1) 0
no_gain t n h k c p q zero j e = let i : k ≡ j = omega arith in rw i at q
no_gain t n h k c p q (suc d) j e =
    let i : (j + 1) + 1 ≡ j + 2 = omega arith in
    let r : get_or t (j + 1) 0 + h ≤ get_or t (j + 2) 0 = rw i at (no_gain t n h k c p q d (j + 1) (omega arith)) in
    omega (arith, c j (omega arith))

-- the walk stops where the new high is no gain
module _ (t u : List ℕ) (n h m f g : ℕ) (l : n + 1 < length t) (e : f ≡ h) (d : g ≡ h) (c : Concave t n) (p : 0 < m) (q : m ≤ n) where
  abbrev begun : List ℕ
  begun = set t (n + 1) (get_or t n 0 + f)

  begun_is : (j : ℕ) → j ≤ n → get_or begun j 0 ≡ get_or t j 0
  begun_is j x = get_or-set_other t (n + 1) j (get_or t n 0 + f) 0 (omega arith)

  pub stopped : ((j : ℕ) → j ≤ m → get_or u j 0 ≡ get_or begun j 0) → get_or u (n + 1) 0 ≡ get_or begun (n + 1) 0
      → ((j : ℕ) → m ≤ j → j < n → get_or u (j + 1) 0 ≡ max (get_or begun (j + 1) 0) (get_or begun j 0 + h))
      → get_or u (m - 1) 0 + g ≤ get_or u ((m - 1) + 1) 0 → Admitted t u n h
  stopped a b o s = record {
    none = a 0 (omega arith) ∙ begun_is 0 (omega arith);
    all = b ∙ get_or-set_same t (n + 1) (get_or t n 0 + f) 0 l ∙ omega arith;
    some = λ k z. elim (cases_lt k m) [
      | inl x ↦ omega (arith, kept (k + 1) (omega arith), no_gain t n h (m - 1) c (omega arith) still ((m - 1) - k) k (omega arith))
      | inr x ↦ omega (arith, o k x z, begun_is (k + 1) (omega arith), begun_is k (omega arith))
    ];
  }
    where
      kept : (j : ℕ) → j ≤ m → get_or u j 0 ≡ get_or t j 0
      kept j x = a j x ∙ begun_is j (omega arith)

      still : get_or t (m - 1) 0 + h ≤ get_or t ((m - 1) + 1) 0
      still = omega (arith, kept (m - 1) (omega arith), kept ((m - 1) + 1) (omega arith))

pub concave_is : (cs : List Row) (t : List ℕ) (s : Sums) {n : ℕ} → Topped cs t s n → Concave t s.optional
concave_is cs t s w k z =
    let i : top cs (suc k) ≡ top cs (k + 1) = ap (top cs) (omega arith) in let j : top cs (suc (suc k)) ≡ top cs (k + 2) = ap (top cs) (omega arith) in
    omega (arith, top_concave cs k, w.tops k (omega arith), w.tops (k + 1) (omega arith), w.tops (k + 2) z)

module _ (cs : List Row) (t : List ℕ) (s : Sums) (n : ℕ) (w : Added cs t s n) where
  pub certain_front : (l h a b : ℕ) → a ≡ l → b ≡ h → 0 < l → l < 65536 → h < 65536
      → Added (row l h ∷ cs) t (sums (s.certain + 1) s.optional (s.lows + a) (s.base + b)) (suc n)
  certain_front zero h x y d e p q r = absurd (omega arith)
  certain_front (suc l) h x y d e p q r = let a = w.0 in let b = w.1 in (
    record { certains = omega arith; optionals = omega arith; least = omega arith; bases = omega arith; few = omega arith; light = omega arith; heavy = omega arith },
    record { tops = λ k z. b.tops k z ∙ sym (top_certain l h cs k); limit = λ k z. omega (arith, b.limit k z) },
  )

  pub absent_front : (l h a : ℕ) → a ≡ l → l ≤ 0 → h ≤ 0 → Added (row l h ∷ cs) t (sums s.certain s.optional (s.lows + a) s.base) (suc n)
  absent_front (suc l) h x d p q = absurd (omega arith)
  absent_front zero (suc h) x d p q = absurd (omega arith)
  absent_front zero zero x d p q = let a = w.0 in let b = w.1 in (
    record { certains = omega arith; optionals = omega arith; least = omega arith; bases = omega arith; few = omega arith; light = omega arith; heavy = omega arith },
    record { tops = λ k z. b.tops k z ∙ sym (top_absent cs k); limit = λ k z. omega (arith, b.limit k z) },
  )

  pub optional_front : (l h a : ℕ) (u : List ℕ) → a ≡ l → l ≤ 0 → 0 < h → h < 65536 → Admitted t u s.optional h
      → Added (row l h ∷ cs) u (sums s.certain (s.optional + 1) (s.lows + a) s.base) (suc n)
  optional_front (suc l) h x u d p q r g = absurd (omega arith)
  optional_front zero zero x u d p q r g = absurd (omega arith)
  optional_front zero (suc h) x u d p q r g = let a = w.0 in (
    record { certains = omega arith; optionals = omega arith; least = omega arith; bases = omega arith; few = omega arith; light = omega arith; heavy = omega arith },
    record { tops = λ k z. (at k z).0; limit = λ k z. (at k z).1 },
  )
    where
      at : (k : ℕ) → k ≤ s.optional + 1 → (get_or u k 0 ≡ top (row 0 (suc h) ∷ cs) k) × (get_or u k 0 ≤ 65535 * suc n)
      at zero z = let b = w.1 in let x = g.none in (omega (arith, b.tops 0 (omega arith), top_zero cs), omega (arith, b.limit 0 (omega arith)))
      at (suc k) z = let b = w.1 in let a = w.0 in let e = b.tops k (omega arith) in let v = b.limit k (omega arith) in
          let i : k + 1 ≡ suc k = omega arith in
          elim (cases_lt k s.optional) [
            | inl y ↦ let x : get_or u (suc k) 0 ≡ max (get_or t (suc k) 0) (get_or t k 0 + suc h) = rw i at (g.some k y) in
                (omega (arith, b.tops (suc k) y), omega (arith, b.limit (suc k) y))
            | inr y ↦ let j : s.optional ≡ k = omega arith in
                let x : get_or u (suc k) 0 ≡ get_or t k 0 + suc h = rw i at (rw j at g.all) in
                (omega (arith, top_full cs k (omega arith)), omega arith)
          ]

  abbrev same_lows : ℕ → ℕ → List ℕ → ℕ → ℕ → Type 0
  same_lows l h u o x = Added (row l h ∷ cs) u (sums s.certain o x s.base) (suc n)

  pub absent_same : (l h : ℕ) → l ≤ 0 → h ≤ 0 → same_lows l h t s.optional s.lows
  absent_same l h p q = subst (same_lows l h t s.optional) (omega arith) (absent_front l h 0 (omega arith) p q)

  pub optional_same : (l h : ℕ) (u : List ℕ) → l ≤ 0 → 0 < h → h < 65536 → Admitted t u s.optional h → same_lows l h u (s.optional + 1) s.lows
  optional_same l h u p q r g = subst (same_lows l h u (s.optional + 1)) (omega arith) (optional_front l h 0 u (omega arith) p q r g)

pub gap_certain : (l h : ℕ) (cs : List Row) (g : ℕ) → g ≡ gap cs → (m : ℕ) → 0 < l → m ≡ max g (h - l) → m ≡ gap (row l h ∷ cs)
gap_certain zero h cs g e m p q = absurd (omega arith)
gap_certain (suc l) h cs g e m p q = omega arith

pub gap_other : (l h : ℕ) (cs : List Row) (g : ℕ) → g ≡ gap cs → l ≤ 0 → g ≡ gap (row l h ∷ cs)
gap_other (suc l) h cs g e p = absurd (omega arith)
gap_other zero h cs g e p = omega arith

-- one row more, as the loop meets them
pub one_more : (P : List Row → ℕ → Type 0) (rows : List Row) (r : Row)
    → P (r ∷ reverse rows) (suc (length rows)) → P (reverse (rows ++ (r ∷ []))) (length (rows ++ (r ∷ [])))
one_more P rows r h = subst₂ P (sym (reverse-append rows (r ∷ []))) (omega (arith, length-append rows (r ∷ []))) h
