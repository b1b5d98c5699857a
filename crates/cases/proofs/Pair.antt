-- A plate and a subset, settled in three narrowings.
use Rattle.std.proofs.Common.{◌≡◌, ℕ, zero, suc, ◌<◌, refl, arith}
use Rattle.bounds.specs.Boards.{cells}
use Rattle.settling.specs.Plans.{Applies, stay, more, Lowest, Still}
use Rattle.cases.specs.Worked.{two_rules, wide, raised, closer, closest, PlateAndSubset}
use Rattle.cases.proofs.Lowest.{lowest, lowest_first}

quiet_plate : (q : ℕ) → q < 1 → (two_rules.rule q).narrowed raised ≡ cells raised
quiet_plate zero h = refl
quiet_plate (suc q) h = absurd (omega arith)

subset_next : Lowest two_rules raised 1
subset_next = lowest two_rules raised (cells closer) 1 (omega arith) quiet_plate refl (omega arith)

applied : Applies two_rules wide closest 3
applied =
    let one = more {b = wide} {c = raised} stay 0 (lowest_first two_rules wide (cells raised) (omega arith) refl (omega arith)) refl in
    let two = more {b = raised} {c = closer} one 1 subset_next refl in
    more {b = closer} {c = closest} two 0 (lowest_first two_rules closer (cells closest) (omega arith) refl (omega arith)) refl

still : Still two_rules (cells closest)
still zero h = refl
still (suc zero) h = refl
still (suc (suc r)) h = absurd (omega arith)

pub plate_and_subset : PlateAndSubset
plate_and_subset = record { first = refl; second = refl; third = refl; settles = (applied, still, refl, refl) }
