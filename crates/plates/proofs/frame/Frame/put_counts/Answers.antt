use Rattle.std.proofs.Common.{arith}
use Rattle.plates.proofs.Keeping.{all_keep}
use Rattle.plates.proofs.frame.Frame.put_counts.Goals as goal

pub returns-then-widths-kept-2 : goal.returns-then-widths-kept-2
returns-then-widths-kept-2 c = all_keep _ _ c.kept-kept.ensures.kept _ _ c.requires.wide (omega arith) (omega arith)
