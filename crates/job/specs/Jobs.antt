-- A job as the program holds it: the file that it stands on, and what was found there.
use Rattle.std.specs.Prelude.{◌≡◌, ℕ, List, Result, MatchResult, ◌≢◌}
use Rattle.job.specs.declared.job.Job.{Job}
use Rattle.job.specs.declared.fault.JobFault.{JobFault}
use Rattle.job.specs.Faults.{of_job}
use Rattle.job.specs.Reading.{Found, reading, refused, granted}
use Rattle.job.specs.Tallies.{held}
use Rattle.job.specs.Told.{Told}
use Rattle.job.specs.Written.{Records, Lawful, Read, written}

abbrev pub job_file : Job → List ℕ
job_file j = j.file.now

abbrev pub job_found : Job → Found
job_found j = held j.tally j.places

-- the answer for a file: its reading, refused or granted
abbrev pub Reads : List ℕ → Result Job JobFault → Type 0
Reads f r = MatchResult r (λ j. (job_file j ≡ f) × (reading f ≡ granted (job_found j))) (λ e. reading f ≡ refused (of_job e))

-- What a granted job and a refusal mean: the records that made the file are found, each refusal tells of a fault that
-- stands at its place, and no file of lawful records is refused.
abbrev pub Means : List ℕ → Result Job JobFault → Type 0
Means f r = MatchResult r (λ j. (x : Records) → Lawful x → written x ≡ f → Read f (job_found j) x)
    (λ e. Told f (of_job e) × ((x : Records) → Lawful x → written x ≢ f))
