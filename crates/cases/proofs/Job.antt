-- A job file, read and planned.
use Rattle.std.proofs.Common.{◌≡◌, ℕ, zero, suc, ◌+◌, eqb, List, [], ◌∷◌, refl, arith}
use Rattle.std.proofs.lemmas.Bool.{eqb-true, and_parts}
use Rattle.bounds.specs.Boards.{Fills}
use Rattle.settling.specs.Plans.{Plan, Before}
use Rattle.cases.specs.Worked.{job, first_rules, first_rows, FirstJob}
use Rattle.cases.proofs.Lowest.{settles_once}

meets : Plan first_rules (1 ∷ 2 ∷ 3 ∷ 2 ∷ [])
meets zero h = refl
meets (suc r) h = absurd (omega arith)

filled : (a b c d : ℕ) → Plan first_rules (a ∷ b ∷ c ∷ d ∷ []) → c ≡ a + b
filled a b c d plan =
    let both = and_parts (eqb c (a + (b + 0))) _ (plan 0 (omega arith)) in
    let s = eqb-true c (a + (b + 0)) both.0 in
    omega arith

none_earlier : (q : List ℕ) → Plan first_rules q → Fills q job → Before q (1 ∷ 2 ∷ 3 ∷ 2 ∷ []) → ⊥
none_earlier [] plan f x = x
none_earlier (a ∷ []) plan f x = f.2
none_earlier (a ∷ b ∷ []) plan f x = f.2.2
none_earlier (a ∷ b ∷ c ∷ []) plan f x = f.2.2.2
none_earlier (a ∷ b ∷ c ∷ d ∷ []) plan f x = let s = filled a b c d plan in omega arith
none_earlier (a ∷ b ∷ c ∷ d ∷ e ∷ q) plan f x = f.2.2.2.2

pub first_job : FirstJob
first_job = record {
  reads = refl;
  rows = refl;
  settles = settles_once first_rules first_rows job refl refl (omega arith) refl refl refl;
  plan = record { is_plan = meets; is_allowed = omega arith; no_earlier = none_earlier };
}
