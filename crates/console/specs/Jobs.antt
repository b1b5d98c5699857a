-- The rules of a job as read.
use Rattle.std.specs.Prelude.{ℕ, List}
use Rattle.bounds.specs.Laws.{Meaning}
use Rattle.bounds.specs.Beside.{beside}
use Rattle.rule_families.specs.declared.beside.Beside.{Beside}
use Rattle.rules.specs.declared.numbered.Rules.{Rules}
use Rattle.rules.specs.declared.recorded.Listed.{Listed}
use Rattle.rules.specs.Places.{Over}
use Rattle.plates.specs.declared.plate.Plate.{Plate}
use Rattle.plates.specs.Plates.{plates}
use Rattle.triples.specs.declared.triple.Triple.{Triple}
use Rattle.triples.specs.Triples.{triples}
use Rattle.totals.specs.declared.family.TotalList.{TotalList}
use Rattle.totals.specs.Lists as totals
use Rattle.linear.specs.Totals.{totals}
use Rattle.job.specs.Reading.{Found}

-- the plates, triples and totals that stand in the file, numbered in that order
abbrev pub job_meaning : List ℕ → Found → Meaning
job_meaning f g = beside (plates f g.plates) (beside (triples f g.triples) (totals f g.totals))

-- the families of a job
abbrev pub JobFamilies : Type 0
JobFamilies = Beside (Rules (Listed Plate)) (Beside (Rules (Listed Triple)) (Rules TotalList))

-- they are over the file, at the places of its records
pub record JobRules (f : List ℕ) (g : Found) (r : JobFamilies) : Type 0 where
  pub plates : Over f g.plates r.first
  pub triples : Over f g.triples r.second.first
  pub totals : totals.Over f g.totals r.second.second
