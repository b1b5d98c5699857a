-- The rows of slots, variety and the counts in one list.
use Rattle.std.proofs.Common.{◌≡◌, true, false, List, ◌∷◌, ◌∙◌}
use Rattle.std.proofs.lemmas.Bool.{cond-true, cond-false}
use Rattle.bounds.specs.declared.row.Row.{Row}
use Rattle.bounds.specs.Boards.{void, cells, sound}
use Rattle.bounds.specs.Exact.{exact}
use Rattle.rules.proofs.Compared.{row_tested}
use Rattle.plates.specs.Plates.{plate}
use Rattle.plates.specs.Form.{feasible, frame_of, rows_of}
use Rattle.plates.proofs.Exactness.{plate_exact}

module _ (x y : Row) (cs : List Row) (s : sound (x ∷ (y ∷ cs)) ≡ true) where
  pub void_outcome : feasible x y cs ≡ false → exact plate (x ∷ (y ∷ cs)) ≡ void
  void_outcome h = plate_exact x y cs s ∙ cond-false _ _ _ h

  pub some_outcome : feasible x y cs ≡ true → exact plate (x ∷ (y ∷ cs)) ≡ cells (rows_of (frame_of x y cs) cs)
  some_outcome h = plate_exact x y cs s ∙ cond-true (feasible x y cs) (cells (rows_of (frame_of x y cs) cs)) void h

pub ruleset narrowing = (void_outcome, some_outcome, row_tested)
