use Rattle.settling.proofs.Folds.{NamedTo}
use Rattle.settling.proofs.folded.FoldedWatchers.list_named.Given as goal

abbrev pub invariant-loop-cell : goal.invariant-loop-cell
invariant-loop-cell g l = NamedTo l.named l.cell-index l.rule l.initial.self l.self l.bits
