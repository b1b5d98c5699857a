-- What the parts of a total's narrowing owe one another.
use Rattle.std.specs.Prelude.{◌≡◌, ◌≤◌, true, false, ◌≢◌, List, length}
use Rattle.bounds.specs.declared.row.Row.{Row}
use Rattle.bounds.specs.Boards.{sound}
use Rattle.records.specs.Forms.{weighted}
use Rattle.rule_families.specs.declared.change.Change.{Change}
use Rattle.rule_families.specs.declared.change.Change.TheVariants.{Quiet, Narrowed, Void}
use Rattle.linear.specs.declared.limits.Limits.{Limits}
use Rattle.linear.specs.Linear.{limits, all_bounded}
use Rattle.totals.specs.declared.total.Total.{Total}
use Rattle.totals.specs.Read.{record_of, weights}

abbrev pub limits_of : Total → List Row → Limits
limits_of t a = limits (weights t) (record_of t).floor (record_of t).ceiling a

abbrev pub new_rows : Total → List Row → List Row
new_rows t a = all_bounded (limits_of t a) (weights t) a

-- the limits are those of the rows
pub record Opened (t : Total) (a : List Row) (l : Limits) : Type 0 where
  pub many : length a ≡ length (record_of t).terms
  pub few : length a ≤ 64
  pub lawful : weighted (record_of t).terms ≡ true
  pub value : l ≡ limits_of t a

-- what the new rows g make of the rows a
abbrev pub Outcome : List Row → List Row → Change → Type 0
Outcome g a Quiet = g ≡ a
Outcome g a Narrowed = (sound g ≡ true) × (g ≢ a)
Outcome g a Void = sound g ≡ false
