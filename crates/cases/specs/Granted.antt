-- What the plates and the triples of a granted job narrow boards to.
use Rattle.std.specs.Prelude.{◌≡◌, ℕ, ◌+◌, ◌<◌, true, List}
use Rattle.bounds.specs.declared.row.Row.{Row}
use Rattle.bounds.specs.Boards.{sound}
use Rattle.bounds.specs.Exact.{exact}
use Rattle.bounds.specs.Laws.{Meaning, Rule}
use Rattle.bounds.specs.Beside.{beside}
use Rattle.plates.specs.Plates.{plates}
use Rattle.triples.specs.Triples.{triples}
use Rattle.linear.specs.Totals.{totals}
use Rattle.job.specs.Reading.{Found, reading, granted}

-- every board is narrowed to the hull of its fillings that meet the rule
abbrev pub IsExact : Rule → Type 0
IsExact u = (a : List Row) → sound a ≡ true → u.narrowed a ≡ exact u.meets a

-- the rules of a file with these places: its plates, then its triples, then its totals
abbrev pub rules_of : List ℕ → Found → Meaning
rules_of f g = beside (plates f g.plates) (beside (triples f g.triples) (totals f g.totals))

-- the plates, the triples, and both as the first rules of the file
pub record RulesAreExact (f : List ℕ) (g : Found) : Type 0 where
  pub plate_rules : (r : ℕ) → IsExact ((plates f g.plates).rule r)
  pub triple_rules : (r : ℕ) → IsExact ((triples f g.triples).rule r)
  pub first_rules : (r : ℕ) → r < (plates f g.plates).size + (triples f g.triples).size → IsExact ((rules_of f g).rule r)

-- A granted file's plates and triples name no cell twice, so that each is narrowed exactly on whole boards.
abbrev pub GrantedAreExact : Type 0
GrantedAreExact = (f : List ℕ) (g : Found) → reading f ≡ granted g → RulesAreExact f g
