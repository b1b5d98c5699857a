-- What the faults of the contents and of a job say.
use Rattle.records.specs.Refusals.{line, of_bytes, of_record}
use Rattle.records.specs.declared.refused.Refused.{Refused}
use Rattle.job.specs.declared.fault.ContentsFault.{ContentsFault}
use Rattle.job.specs.declared.fault.ContentsFault.TheVariants.{Long, Bytes, Count, Kind, Layout}
use Rattle.job.specs.declared.fault.JobFault.{JobFault}
use Rattle.job.specs.declared.fault.JobFault.TheVariants.{Contents, Record}

abbrev pub of_contents : ContentsFault → Refused
of_contents Long = line 1 0 65535
of_contents (Bytes fault) = of_bytes fault
of_contents Count = line 3 0 0
of_contents (Kind place) = line 3 0 place
of_contents (Layout place) = line 4 0 place

abbrev pub of_job : JobFault → Refused
of_job (Contents fault) = of_contents fault
of_job (Record fault) = of_record fault
