-- Of the plans among fillings of one length there is one first.
use Rattle.std.proofs.Common.{◌≡◌, ℕ, ◌⊎◌, List, [], ◌∷◌, length, sym, refl, ◌∙◌, ap₂, inl, inr, arith}
use Rattle.std.proofs.lemmas.Bool.{cases_lt}
use Rattle.bounds.specs.Boards.{Board, void, cells, Lies}
use Rattle.bounds.specs.Laws.{Meaning}
use Rattle.bounds.proofs.Places.{fills_length}
use Rattle.settling.specs.Plans.{First, Before}

lies_length : (p q : List ℕ) (b : Board) → Lies p b → Lies q b → length p ≡ length q
lies_length p q void f g = absurd f
lies_length p q (cells a) f g = fills_length p a f ∙ sym (fills_length q a g)

total : (p q : List ℕ) → length p ≡ length q → (p ≡ q) ⊎ (Before p q ⊎ Before q p)
total [] [] e = inl refl
total [] (y ∷ q) e = absurd (omega arith)
total (x ∷ p) [] e = absurd (omega arith)
total (x ∷ p) (y ∷ q) e = elim (cases_lt x y) [
  | inl lt ↦ inr (inl (inl lt))
  | inr ge ↦ elim (cases_lt y x) [
    | inl lt ↦ inr (inr (inl lt))
    | inr le ↦ let s : x ≡ y = omega arith in elim (total p q (omega arith)) [
      | inl r ↦ inl (ap₂ ◌∷◌ s r)
      | inr (inl b) ↦ inr (inl (inr (s, b)))
      | inr (inr b) ↦ inr (inr (inr (sym s, b)))
    ]
  ]
]

pub first_same : (m : Meaning) (b : Board) (p q : List ℕ) → First m (λ x. Lies x b) p → First m (λ x. Lies x b) q → p ≡ q
first_same m b p q f g = elim (total p q (lies_length p q b f.is_allowed g.is_allowed)) [
  | inl e ↦ e
  | inr (inl x) ↦ absurd (g.no_earlier p f.is_plan f.is_allowed x)
  | inr (inr x) ↦ absurd (f.no_earlier q g.is_plan g.is_allowed x)
]
