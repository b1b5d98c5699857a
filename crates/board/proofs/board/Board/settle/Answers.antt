use Rattle.board.proofs.Settling.{settled_widest}
use Rattle.board.specs.Held.{state}
use Rattle.board.proofs.board.Board.settle.Goals as goal

pub returns-clause-widest : goal.returns-clause-widest
returns-clause-widest g c = settled_widest _ (g.F.Family.lawful c.args.family.now) (state c.args.self.now) (state c.apply.new.self) c.apply.result c.args.self.now.rows_sound c.apply.ensures.does
