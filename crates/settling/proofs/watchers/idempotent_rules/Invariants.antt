use Rattle.settling.specs.Watching.{AllIdempotent}
use Rattle.settling.proofs.watchers.idempotent_rules.Given as goal

abbrev pub invariant-loop-rule : goal.invariant-loop-rule
invariant-loop-rule g l = AllIdempotent (g.F.Family.meaning l.family) l.known
