use Rattle.std.proofs.Common.{◌≡◌, ℕ, ◌<◌, false}
use Rattle.rule_sets.specs.Members.{has}
use Rattle.settling.specs.Asleep.{Apart}
use Rattle.settling.proofs.settle.wake_asking.Given as goal

abbrev pub invariant-loop-cell : goal.invariant-loop-cell
invariant-loop-cell g l =
    let m = g.F.Family.meaning l.family in
    (q : ℕ) → q < m.size → has l.pending q ≡ false
    → (has l.initial.pending q ≡ false) × Apart m l.cells l.cell l.rule q
