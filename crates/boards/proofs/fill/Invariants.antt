use Rattle.std.proofs.Common.{◌≡◌, take}
use Rattle.boards.specs.Opening.{job_rows}
use Rattle.boards.proofs.fill.Given as goal

abbrev pub invariant-loop-number : goal.invariant-loop-number
invariant-loop-number l = take l.number l.bounds-items ≡ take l.number (job_rows l.job)
