-- Two rows as words.
use Rattle.std.proofs.Common.{◌≡◌, ℕ, ◌+◌, ◌*◌, ◌<◌, ◌&&◌, eqb, sym, ap, ◌∙◌, inl, inr, arith}
use Rattle.std.proofs.lemmas.Bool.{cases_eq, eq-eqb, ne_eqb}

pub words_tested : (a b c d : ℕ) → a < 65536 → c < 65536 → eqb (b * 65536 + a) (d * 65536 + c) ≡ (eqb a c && eqb b d)
words_tested a b c d l k = elim (cases_eq a c) [
  | inl e ↦ elim (cases_eq b d) [
    | inl f ↦ eq-eqb _ _ (omega arith) ∙ sym (λ i. eq-eqb a c e i && eq-eqb b d f i)
    | inr g ↦ ne_eqb _ _ (λ h. g (omega arith)) ∙ sym (λ i. eq-eqb a c e i && ne_eqb b d g i)
  ]
  | inr n ↦ ne_eqb _ _ (λ h. n (omega arith)) ∙ sym (ap (λ x. x && eqb b d) (ne_eqb a c n))
]
