use Rattle.settling.proofs.Folds.{stirred_more}
use Rattle.settling.proofs.folded.FoldedWatchers.wake.Goals as goal

pub loop-word-preserved : goal.loop-word-preserved
loop-word-preserved g c = stirred_more c.args.self.now c.args.cell c.loop-word.word _ _ _ c.loop-word.invariant c.unite_word.ensures
