use Rattle.std.proofs.Common.{◌≡◌, ℕ, ◌<◌, ◌≤◌, ◌||◌, false, get_or}
use Rattle.rule_families.proofs.family.Family.mark.Given as goal

abbrev pub invariant-loop-cell : goal.invariant-loop-cell
invariant-loop-cell g l =
    ((c : ℕ) → c < l.cell → get_or l.marks c false ≡ (get_or l.initial.marks c false || ((g.Self.Family.meaning l.self).rule l.rule).touches l.cells c))
    × ((c : ℕ) → l.cell ≤ c → get_or l.marks c false ≡ get_or l.initial.marks c false)
