-- When a call on a board in memory is granted, and the state that it leaves.
use Rattle.std.proofs.Common.{◌≡◌, ℕ, ◌<◌, ◌≤◌, cond, ltb, length, get_or, ◌≢◌, Ok, vec_items, ◌∙◌, arith}
use lib.Seq.{take-set-lt}
use Rattle.std.proofs.lemmas.List.{length-take-le}
use Rattle.std.proofs.lemmas.Grind.{common_steps}
use Rattle.bounds.proofs.Rows.{sound_set}
use Rattle.std.proofs.lemmas.Bool.{cond-true, cond-false, lt-ltb, le-ltb}
use Rattle.board.specs.declared.board.Board.{Board}
use Rattle.board.specs.Calls.{is_open, older, at, refusal, opening, keep}
use Rattle.board.specs.Records.{none_trial}
use Rattle.board.specs.Held.{state, Places}
use Rattle.board.proofs.Slots.{length_trials, Found, none_found, some_found}

module _ (b : Board) where
  pub rows_length : length (state b).rows ≡ b.control.cells
  rows_length = length-take-le b.control.cells (vec_items b.rows) (omega (arith, b.rows.ok.0))

  trials_length : length (state b).trials ≡ b.control.depth
  trials_length = length_trials b.control.cells b.control.trials (vec_items b.saved) b.control.depth

  open_asks : b.control.depth < 16 → refusal (state b) opening ≡ cond (ltb b.control.given 4294967295) 0 13
  open_asks h = cond-true _ _ _ (lt-ltb (length (state b).trials) 16 (omega (arith, trials_length)))

  pub open_granted : b.control.depth < 16 → b.control.given < 4294967295 → refusal (state b) opening ≡ 0
  open_granted h g = open_asks h ∙ cond-true _ _ _ (lt-ltb b.control.given 4294967295 g)

  pub open_spent : b.control.depth < 16 → 4294967295 ≤ b.control.given → refusal (state b) opening ≡ 13
  open_spent h g = open_asks h ∙ cond-false _ _ _ (le-ltb b.control.given 4294967295 g)

  pub gone : (k : ℕ) → ((i : ℕ) → i < b.control.depth → (get_or b.control.trials i none_trial).serial ≢ k) → refusal (state b) (keep k) ≡ 14
  gone k h = cond-false _ _ _ (none_found b.control.cells b.control.trials (vec_items b.saved) k b.control.depth h)

  pub found : (k p : ℕ) → Places b.control k (Ok p)
      → let os = (state b).trials in Found b.control.cells b.control.trials (vec_items b.saved) p b.control.depth (is_open k os) (older k os) (at k os)
  found k p (below, is, newest) = some_found b.control.cells b.control.trials (vec_items b.saved) k p b.control.depth below is newest

-- what a write of one row is proved by
pub ruleset putting = (common_steps, rows_length, take-set-lt, sound_set)
