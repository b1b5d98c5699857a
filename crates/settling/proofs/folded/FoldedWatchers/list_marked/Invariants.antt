use Rattle.settling.proofs.Folds.{TouchedTo}
use Rattle.settling.proofs.folded.FoldedWatchers.list_marked.Given as goal

abbrev pub invariant-loop-cell : goal.invariant-loop-cell
invariant-loop-cell g l = TouchedTo (g.F.Family.meaning l.family) l.cells l.rule l.cell l.initial.self l.self l.reach
