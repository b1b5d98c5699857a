-- The answer that a result of a call is.
use Rattle.std.specs.Prelude.{ℕ, Ok, Err, Result}
use Rattle.bounds.specs.declared.cell.Cell.{Cell}
use Rattle.board.specs.declared.refusal.Refusal.{Refusal}
use Rattle.board.specs.declared.board.trials.Slip.{Slip}
use Rattle.settling.specs.declared.settled.Settled.{Settled}
use Rattle.settling.specs.declared.settled.Settled.TheVariants as settle
use Rattle.run.specs.declared.answer.Answer.{Answer}
use Rattle.run.specs.declared.answer.Answer.TheVariants as answer

abbrev pub of_grant : Result (Unit {0}) Refusal → Answer
of_grant (Ok x) = answer.Granted
of_grant (Err e) = answer.Refused e

abbrev pub of_open : Result Slip Refusal → Answer
of_open (Ok s) = answer.Slip s.serial
of_open (Err e) = answer.Refused e

abbrev pub of_ask : ℕ → Result Cell Refusal → Answer
of_ask c (Ok x) = answer.Cell c x.low x.high
of_ask c (Err e) = answer.Refused e

abbrev pub of_settle : Settled → Answer
of_settle (settle.Settled n) = answer.Settled n
of_settle (settle.Void n) = answer.Void n

-- how much of the plan memory is used after the answer, where so much was used before
abbrev pub used_by : ℕ → Answer → ℕ
used_by u (answer.Plan from to) = to
used_by u answer.Granted = u
used_by u (answer.Slip k) = u
used_by u (answer.Cell c l h) = u
used_by u (answer.Settled n) = u
used_by u (answer.Void n) = u
used_by u answer.NoPlan = u
used_by u (answer.Refused e) = u
