use Rattle.settling.proofs.Folds.{StirredTo}
use Rattle.settling.proofs.folded.FoldedWatchers.wake.Given as goal

abbrev pub invariant-loop-word : goal.invariant-loop-word
invariant-loop-word g l = StirredTo l.self l.cell l.word l.initial.pending l.pending
