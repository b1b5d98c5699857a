-- The totals of a job file: linear constraints, each a record at a place of the file.
use Rattle.std.specs.Prelude.{ℕ, true, cond, List, [], map}
use Rattle.records.specs.Records.{Term, Total, total_at}
use Rattle.records.specs.Forms.{term_cells, total_limits}
use Rattle.bounds.specs.Boards.{cells}
use Rattle.bounds.specs.Laws.{Meaning}
use Rattle.bounds.specs.Scoped.{Scoped}
use Rattle.bounds.specs.Listed.{listed}
use Rattle.linear.specs.Linear.{linear}

abbrev pub weights_of : List Term → List ℕ
weights_of = map (λ t. t.weight)

-- where the record does not keep its limits: a rule that names no cell and is always met
abbrev pub unnamed : Scoped
unnamed = record { scope = []; relation = λ p. true; narrowing = λ a. cells a }

abbrev pub total_scoped : Total → Scoped
total_scoped t = cond (total_limits t) (linear (term_cells t.terms) (weights_of t.terms) t.floor t.ceiling) unnamed

abbrev pub total_rule : List ℕ → ℕ → Scoped
total_rule file place = total_scoped (total_at file place)

abbrev pub totals : List ℕ → List ℕ → Meaning
totals file places = listed total_rule file places
