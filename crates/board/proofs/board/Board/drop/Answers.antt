use Rattle.board.proofs.Closing.{drop_refused}
use Rattle.board.proofs.board.Board.drop.Goals as goal

pub returns-in_err-place-clause-does : goal.returns-in_err-place-clause-does
returns-in_err-place-clause-does c m = drop_refused c.args.self.now m c.args.slip _ _ c.from_residual.ensures.1 c.in_err-place.ensures
