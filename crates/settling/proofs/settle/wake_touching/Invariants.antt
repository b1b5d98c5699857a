use Rattle.std.proofs.Common.{◌≡◌, ℕ, ◌<◌, false}
use Rattle.rule_sets.specs.Members.{has}
use Rattle.settling.proofs.settle.wake_touching.Given as goal

abbrev pub invariant-loop-rule : goal.invariant-loop-rule
invariant-loop-rule g l =
    let m = g.F.Family.meaning l.family in
    (q : ℕ) → q < m.size → has l.pending q ≡ false
    → (has l.initial.pending q ≡ false) × (q < l.rule → (m.rule q).touches l.cells l.cell ≡ false)
