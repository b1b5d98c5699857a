use Rattle.std.proofs.Common.{◌≤◌}
use Rattle.rule_sets.specs.Members.{weight, NoneBelow}
use Rattle.settling.proofs.Scans.{Scanned}
use Rattle.settling.proofs.settle.settle_from.Given as goal

abbrev pub invariant-scan : goal.invariant-scan
invariant-scan g l = Scanned (g.F.Family.meaning l.family) l.initial.rows l.rows l.applied l.pending l.before l.resting

abbrev pub invariant-loop-rule : goal.invariant-loop-rule
invariant-loop-rule g l =
    Scanned (g.F.Family.meaning l.family) l.fn.rows l.rows l.applied l.pending l.before l.resting
    × NoneBelow l.pending l.passed
    × (l.passed ≤ l.watchers.words)

abbrev pub decreases-loop-rule : goal.decreases-loop-rule
decreases-loop-rule g l = weight l.pending
