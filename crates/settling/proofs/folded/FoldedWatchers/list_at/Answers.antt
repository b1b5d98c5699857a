use Rattle.std.proofs.Common.{arith}
use Rattle.settling.proofs.Folds.{listed_at}
use Rattle.settling.proofs.folded.FoldedWatchers.list_at.Goals as goal

pub returns : goal.returns
returns g c = listed_at c.args.self.now c.args.rule c.args.cell _ _ (omega arith) (omega arith) c.with_bit.ensures c.with_bit-2.ensures
