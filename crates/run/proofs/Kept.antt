-- The promise, for every lawful family: by induction over the run.
use Rattle.std.proofs.Common.{◌≡◌, ◌+◌, ◌≤◌, true, List, arith}
use Rattle.bounds.specs.declared.row.Row.{Row}
use Rattle.bounds.specs.Boards.{sound, width}
use Rattle.bounds.specs.Laws.{Meaning, FiveLaws}
use Rattle.board.specs.Calls.{State, board, Event}
use Rattle.run.specs.Runs.{Run, here, then, ledger, tally}
use Rattle.run.specs.Promise.{Newest, Promise, KeptThroughout, Accounts}
use Rattle.run.proofs.Tightened.{enclosed_first}
use Rattle.run.proofs.Steps.{accounted_step, bound_step}
use Rattle.run.proofs.Answered.{newest_step}

module _ (m : Meaning) (laws : FiveLaws m) where
  pub accounts : Accounts m
  accounts job ok _ _ here = record { current = enclosed_first m job ok; trials = tt }
  accounts job ok _ _ (then run e t d) = accounted_step m job _ _ (accounts job ok _ _ run) laws e t d

  module _ (job : List Row) (ok : sound job ≡ true) where
    bounded : {es : List Event} {s : State} (run : Run m job es s) → (tally run).narrowings + width (board s) ≤ (tally run).left
    bounded here = omega arith
    bounded (then run e t d) = bound_step m job _ _ (accounts job ok _ _ run) laws e t d (tally run) (bounded run)

    answered : {es : List Event} {s : State} → Run m job es s → Newest m job (ledger es).in_force s es
    answered here = tt
    answered (then run e t d) = newest_step m laws job _ _ (accounts job ok _ _ run) _ e t d

  pub kept : Promise m
  kept job ok es s run = record {
    plans = (accounts job ok es s run).current.plans;
    newest = answered job ok run;
    bound = bounded job ok run;
  }

  pub kept_throughout : (job : List Row) → sound job ≡ true → {es : List Event} {s : State} (run : Run m job es s) → KeptThroughout run
  kept_throughout job ok here = kept job ok _ _ here
  kept_throughout job ok (then run e t d) = (kept_throughout job ok run, kept job ok _ _ (then run e t d))
