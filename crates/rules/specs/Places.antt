-- Families whose rules are records of a file.
use Rattle.std.specs.Prelude.{◌≡◌, ℕ, List}
use Rattle.rules.specs.declared.numbered.Rules.{Rules}
use Rattle.rules.specs.declared.recorded.Listed.{Listed}

-- the rules are the records at the places of the file
pub record Over {R : Type 0} (f places : List ℕ) (r : Rules (Listed R)) : Type 0 where
  pub file : r.0.file.now ≡ f
  pub at : r.0.places.now ≡ places
