use Rattle.std.proofs.Common.{◌≡◌, drop}
use Rattle.bounds.specs.Scoped.{scatter}
use Rattle.rules.proofs.named.scattered.Given as goal

abbrev pub invariant-loop-i : goal.invariant-loop-i
invariant-loop-i g l = let cs = g.R.Scope.scope l.rule in scatter (drop l.i cs) (drop l.i l.own) l.rows ≡ scatter cs l.own l.initial.rows
