use Rattle.std.proofs.lemmas.Result.{MatchResult-weaker}
use Rattle.job.specs.Faults.{of_job}
use Rattle.job.specs.Jobs.{job_found}
use Rattle.job.proofs.Telling.{refusals_told}
use Rattle.job.proofs.Whole.{found_again, never_refused}
use Rattle.job.proofs.job.Job.read.Goals as goal

pub returns-clause-meaning : goal.returns-clause-meaning
returns-clause-meaning c = let f = c.args.file.now in
    MatchResult-weaker c.scan.result c.scan.ensures (λ j h. found_again f (job_found j) h.1)
    (λ e h. (refusals_told f (of_job e) h, never_refused f (of_job e) h))
