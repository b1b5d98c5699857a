use Rattle.std.proofs.lemmas.List.{length-take-le}
use Rattle.board.proofs.Slots.{pasted_at}
use Rattle.board.proofs.board.trials.save.Goals as goal

pub returns : goal.returns
returns c = pasted_at _ _ _ _ _ c.requires.room (length-take-le c.args.cells c.args.rows.now c.requires.rows) c.copy_from_slice.ensures.after
