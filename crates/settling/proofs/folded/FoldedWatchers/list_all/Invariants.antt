use Rattle.settling.proofs.Folds.{FoldedTo}
use Rattle.settling.proofs.folded.FoldedWatchers.list_all.Given as goal

abbrev pub invariant-loop-rule : goal.invariant-loop-rule
invariant-loop-rule g l = FoldedTo (g.F.Family.meaning l.family) l.cells l.rule l.self
