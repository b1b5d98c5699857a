use Rattle.std.proofs.Common.{◌≤◌}
use Rattle.rule_sets.specs.Members.{weight, NoneBelow}
use Rattle.settling.specs.Settles.{Begun}
use Rattle.settling.proofs.settle.settle_asking.Given as goal

abbrev pub invariant-scan : goal.invariant-scan
invariant-scan g l = Begun (g.F.Family.meaning l.family) l.initial.rows l.rows l.applied l.pending

abbrev pub invariant-loop-rule : goal.invariant-loop-rule
invariant-loop-rule g l =
    Begun (g.F.Family.meaning l.family) l.fn.rows l.rows l.applied l.pending
    × NoneBelow l.pending l.passed
    × (l.passed ≤ l.words)

abbrev pub decreases-loop-rule : goal.decreases-loop-rule
decreases-loop-rule g l = weight l.pending
