use Rattle.std.proofs.Common.{refl}
use Rattle.run.proofs.Makes.{stays_saved, made_keep}
use Rattle.run.proofs.step.kept.Goals as goal

pub returns : goal.returns
returns c m laws u p s =
    let e = c.keep.ensures in
    made_keep m laws _ _ u p s _ _ _ c.of.result c.keep.result refl c.of.ensures c.into.ensures (e.does m) (stays_saved _ _ e.memory.frame e.memory.saved)
