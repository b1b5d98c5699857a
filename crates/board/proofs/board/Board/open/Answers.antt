use Rattle.std.proofs.Common.{rules, arith}
use Rattle.board.proofs.Opening.{open_refused}
use Rattle.board.proofs.board.Board.open.Goals as goal

pub returns-in_err-serial-clause-does : goal.returns-in_err-serial-clause-does
returns-in_err-serial-clause-does c m =
    let full = rw c.in_err-serial.ensures.ok_part at c.checked_add.ensures in
    let is = rw c.in_err-serial.ensures.ok_part at c.in_err-serial.ensures.value in
    open_refused c.args.self.now m _ c.if-depth-ge-MOST_TRIALS.false (omega (arith, full)) (search (rules, is))
