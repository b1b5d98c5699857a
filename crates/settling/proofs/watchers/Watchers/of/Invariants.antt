use Rattle.settling.proofs.Lists.{WatchesTo}
use Rattle.settling.proofs.watchers.Watchers.of.Given as goal

abbrev pub invariant-loop-rule : goal.invariant-loop-rule
invariant-loop-rule g l = WatchesTo (g.F.Family.meaning l.family) l.cells l.rule l.watchers
