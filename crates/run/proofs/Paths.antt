-- Applications of the lowest-numbered rule that changes the rows go one way only.
use Rattle.std.proofs.Common.{◌≡◌, ℕ, ◌+◌, ◌<◌, ◌⊎◌, List, sym, refl, ap, ◌∙◌, subst, inl, inr, arith}
use Rattle.std.proofs.lemmas.Bool.{cases_lt}
use Rattle.bounds.specs.declared.row.Row.{Row}
use Rattle.bounds.specs.Boards.{void, cells}
use Rattle.bounds.specs.Laws.{Meaning}
use Rattle.bounds.proofs.Rows.{cells_void, cells_same}
use Rattle.settling.specs.Plans.{Lowest, Applies, stay, more, Still}

-- the last of the applications that led from a to c
record Latest (m : Meaning) (a c : List Row) (k : ℕ) : Type 0 where
  mid : List Row
  count : ℕ
  rule : ℕ
  counted : k ≡ count + 1
  so_far : Applies m a mid count
  lowest : Lowest m mid rule
  gives : (m.rule rule).narrowed mid ≡ cells c

module _ (m : Meaning) where
  latest : {a c : List Row} {k : ℕ} → Applies m a c k → ((k ≡ 0) × (c ≡ a)) ⊎ Latest m a c k
  latest stay = inl (refl, refl)
  latest (more {b = b} {n = n} x r low e) = inr (record { mid = b; count = n; rule = r; counted = refl; so_far = x; lowest = low; gives = e })

  pub lowest_same : (a : List Row) (q r : ℕ) → Lowest m a q → Lowest m a r → q ≡ r
  lowest_same a q r x y = elim (cases_lt q r) [
    | inl lt ↦ absurd (x.moves (y.before q lt))
    | inr ge ↦ elim (cases_lt r q) [ inl lt ↦ absurd (y.moves (x.before r lt)) | inr le ↦ omega arith ]
  ]

  next_same : (a b c d : List Row) (q r : ℕ) → a ≡ b → Lowest m a q → Lowest m b r → (m.rule q).narrowed a ≡ cells c → (m.rule r).narrowed b ≡ cells d → c ≡ d
  next_same a b c d q r s x y e f =
      let k = lowest_same b q r (subst (λ (z : List Row). Lowest m z q) s x) y in
      cells_same c d (sym e ∙ ap (λ z. (m.rule q).narrowed z) s ∙ ap (λ i. (m.rule i).narrowed b) k ∙ f)

  same_count : {a b : List Row} {n : ℕ} → Applies m a b n → (c : List Row) (k : ℕ) → Applies m a c k → n ≡ k → b ≡ c
  same_count stay c k y e = elim (latest y) [ inl z ↦ sym z.1 | inr l ↦ absurd (omega (arith, l.counted)) ]
  same_count (more {b = b} {c = d} x r low e) c k y h = elim (latest y) [
    | inl z ↦ absurd (omega (arith, z.0))
    | inr l ↦ next_same b l.mid d c r l.rule (same_count x l.mid l.count l.so_far (omega (arith, l.counted))) low l.lowest e l.gives
  ]

  -- a rule narrows the rows next
  abbrev Moves : List Row → Type 0
  Moves b = (r : ℕ) × (d : List Row) × Lowest m b r × ((m.rule r).narrowed b ≡ cells d)

  goes_on : {a c : List Row} {k : ℕ} → Applies m a c k → (b : List Row) (n : ℕ) → Applies m a b n → n < k → Moves b
  goes_on stay b n y h = absurd (omega arith)
  goes_on (more {c = c} {n = j} x r low e) b n y h = elim (cases_lt n j) [
    | inl lt ↦ goes_on x b n y lt
    | inr ge ↦ let s = same_count x b n y (omega arith) in
        (r, c, subst (λ (z : List Row). Lowest m z r) s low, ap (λ z. (m.rule r).narrowed z) (sym s) ∙ e)
  ]

  abbrev pub Stuck : List Row → Type 0
  Stuck b = Moves b → ⊥

  pub still_stuck : (b : List Row) → Still m (cells b) → Stuck b
  still_stuck b still (r, d, low, e) = low.moves (still r low.listed)

  pub voids_stuck : (b : List Row) (r : ℕ) → Lowest m b r → (m.rule r).narrowed b ≡ void → Stuck b
  voids_stuck b r low v (q, d, low', e) = cells_void d (sym e ∙ ap (λ i. (m.rule i).narrowed b) (lowest_same b q r low' low) ∙ v)

  pub same_end : {a b c : List Row} {n k : ℕ} → Applies m a b n → Stuck b → Applies m a c k → Stuck c → (n ≡ k) × (b ≡ c)
  same_end {b = b} {c = c} {n = n} {k = k} x sb y sc = elim (cases_lt n k) [
    | inl lt ↦ absurd (sb (goes_on y b n x lt))
    | inr ge ↦ elim (cases_lt k n) [ inl lt ↦ absurd (sc (goes_on x c k y lt)) | inr le ↦ (omega arith, same_count x c k y (omega arith)) ]
  ]
