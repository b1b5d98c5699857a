-- What opening a trial leaves.
use Rattle.std.proofs.Common.{◌≡◌, ℕ, ◌+◌, ◌*◌, ◌<◌, ◌≤◌, true, ◌≢◌, List, ◌∷◌, length, get_or, take, set, Ok, Err, Result, vec_items, sym, refl, ap, ◌∙◌, subst, arith, lit<, length-set, below_more}
use Rattle.std.proofs.lemmas.Grind.{common_steps}
use Rattle.std.proofs.lemmas.List.{get_or-set_same, get_or-set_other}
use Rattle.std.specs.Result.{IsErrAnd}
use Rattle.bounds.specs.declared.row.Row.{Row}
use Rattle.bounds.specs.Boards.{sound}
use Rattle.bounds.specs.Laws.{Meaning}
use Rattle.board.specs.declared.board.Board.{Board}
use Rattle.board.specs.declared.board.trials.Slip.{Slip}
use Rattle.board.specs.declared.control.Trial.{Trial}
use Rattle.board.specs.declared.refusal.Refusal.{Refusal}
use Rattle.board.specs.declared.refusal.Refusal.TheVariants.{Serial}
use Rattle.board.specs.Calls.{Does}
use Rattle.board.specs.Records.{none_trial}
use Rattle.board.specs.Held.{state, event_of_open, Pasted, trials_of}
use Rattle.board.proofs.Granted.{rows_length, open_granted, open_spent}
use Rattle.board.proofs.Slots.{next_place, one_more, room_for}
use Rattle.board.proofs.Sounds.{sound_pasted}

module _ (b : Board) where
  pub open_refused : (m : Meaning) (r : Result Slip Refusal) → b.control.depth < 16 → 4294967295 ≤ b.control.given → IsErrAnd r (λ x. x ≡ Serial)
      → Does m (state b) (event_of_open r) (state b)
  open_refused m (Ok x) d g h = absurd h
  open_refused m (Err x) d g h = rw h (open_spent b d g, lit< tt, refl)

  pub numbered_on : (t : Trial) (k : ℕ) → b.control.depth < 16 → t.serial ≡ b.control.given + 1 → t.serial ≡ k
      → (i : ℕ) → i < b.control.depth + 1 → (get_or (set b.control.trials b.control.depth t) i none_trial).serial ≤ k
  numbered_on t k h e same =
      let ts = b.control.trials in
      let d = b.control.depth in
      below_more (λ i. (get_or (set ts d t) i none_trial).serial ≤ k) d
      (λ i l. let ne : i ≢ d = omega arith in rw (get_or-set_other ts d i t none_trial ne) (omega (arith, b.numbered i l)))
      (let l : d < length ts = omega (arith, b.sixteen) in rw (get_or-set_same ts d t none_trial l) (omega arith))

  pub next_room : b.control.depth < 16 → b.control.depth * b.control.cells + b.control.cells ≤ length (vec_items b.saved)
  next_room h = omega (arith, room_for b.control.cells b.control.depth 16 h, b.trial_room, b.saved.ok.0)

  module _ (ys : List Row) (p : Pasted (b.control.depth * b.control.cells) (take b.control.cells (vec_items b.rows)) (vec_items b.saved) ys) where
    pub sound_on : sound (take ((b.control.depth + 1) * b.control.cells) ys) ≡ true
    sound_on = subst (λ m. sound (take m ys) ≡ true) (next_place b.control.cells b.control.depth (state b).rows (rows_length b))
        (sound_pasted (b.control.depth * b.control.cells) (state b).rows _ _ p b.saved_sound b.rows_sound)

    pub one_on : (t : Trial) → b.control.depth < 16
        → trials_of b.control.cells (set b.control.trials b.control.depth t) ys (b.control.depth + 1) ≡ record { serial = t.serial; was_void = t.void; was_rows = (state b).rows } ∷ (state b).trials
    one_on t h = one_more b.control.cells b.control.trials t (state b).rows _ _ b.control.depth (omega (arith, b.sixteen)) (rows_length b) p

pub ruleset opening = (common_steps, length-set, numbered_on, next_room, sound_on, one_on, open_granted, rows_length)
