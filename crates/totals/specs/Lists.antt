-- The totals of a file.
use Rattle.std.specs.Prelude.{◌≡◌, ℕ, List}
use Rattle.rules.specs.declared.numbered.Rules.{Rules}
use Rattle.totals.specs.declared.family.TotalList.{TotalList}

-- the rules are the totals at the places of the file
pub record Over (f places : List ℕ) (r : Rules TotalList) : Type 0 where
  pub file : r.0.file.now ≡ f
  pub at : r.0.places.now ≡ places
