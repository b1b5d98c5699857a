use Rattle.std.proofs.Common.{◌≡◌}
use Rattle.job.proofs.Gathering.{Gathering}
use Rattle.job.proofs.job.Job.scan.Given as goal

abbrev pub invariant-loop-entry : goal.invariant-loop-entry
invariant-loop-entry l = let e = l.entry-iterator in (e.file.now ≡ l.file) × Gathering l.file e.numbers.end e.numbers.start l.tally l.places
