-- No plan of two designs out of three comes before 0, 1, 2.
use Rattle.std.proofs.Common.{◌≡◌, ℕ, zero, suc, ◌+◌, eqb, List, [], ◌∷◌, refl, arith}
use Rattle.std.proofs.lemmas.Bool.{eqb-true, and_parts}
use Rattle.bounds.specs.Boards.{Fills}
use Rattle.settling.specs.Plans.{Plan, Before, First}
use Rattle.plates.specs.Plates.{sum, present}
use Rattle.plates.specs.Worked.{three_designs, two_of_three}
use Rattle.cases.specs.Worked.{plate}

meets : Plan (plate three_designs) (0 ∷ 1 ∷ 2 ∷ 3 ∷ 2 ∷ [])
meets zero h = refl
meets (suc r) h = absurd (omega arith)

filled : (a b c d e : ℕ) → Plan (plate three_designs) (a ∷ b ∷ c ∷ d ∷ e ∷ []) → d ≡ a + (b + c)
filled a b c d e plan =
    let both = and_parts (eqb d (sum (a ∷ b ∷ c ∷ []))) (eqb e (present (a ∷ b ∷ c ∷ []))) (plan 0 (omega arith)) in
    let s = eqb-true d (sum (a ∷ b ∷ c ∷ [])) both.0 in
    omega arith

none_earlier : (q : List ℕ) → Plan (plate three_designs) q → Fills q two_of_three → Before q (0 ∷ 1 ∷ 2 ∷ 3 ∷ 2 ∷ []) → ⊥
none_earlier [] plan f x = x
none_earlier (a ∷ []) plan f x = f.2
none_earlier (a ∷ b ∷ []) plan f x = f.2.2
none_earlier (a ∷ b ∷ c ∷ []) plan f x = f.2.2.2
none_earlier (a ∷ b ∷ c ∷ d ∷ []) plan f x = f.2.2.2.2
none_earlier (a ∷ b ∷ c ∷ d ∷ e ∷ []) plan f x = let s = filled a b c d e plan in omega arith
none_earlier (a ∷ b ∷ c ∷ d ∷ e ∷ g ∷ q) plan f x = f.2.2.2.2.2

pub first_of_any_two : First (plate three_designs) (λ p. Fills p two_of_three) (0 ∷ 1 ∷ 2 ∷ 3 ∷ 2 ∷ [])
first_of_any_two = record { is_plan = meets; is_allowed = omega arith; no_earlier = none_earlier }
