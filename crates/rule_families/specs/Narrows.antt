-- What an answer of a narrowing says of the rows before it and after it.
use Rattle.std.specs.Prelude.{◌≡◌, ◌≢◌, List}
use Rattle.bounds.specs.declared.row.Row.{Row}
use Rattle.bounds.specs.Boards.{Board, void, cells}
use Rattle.rule_families.specs.declared.change.Change.{Change}
use Rattle.rule_families.specs.declared.change.Change.TheVariants.{Quiet, Narrowed, Void}

abbrev pub Narrows : (List Row → Board) → List Row → List Row → Change → Type 0
Narrows f a b Quiet = (f a ≡ cells a) × (b ≡ a)
Narrows f a b Narrowed = (f a ≡ cells b) × (b ≢ a)
Narrows f a b Void = (f a ≡ void) × (b ≡ a)
