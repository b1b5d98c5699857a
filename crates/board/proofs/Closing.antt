-- What closing a trial leaves.
use Rattle.std.proofs.Common.{◌≡◌, ℕ, ◌+◌, ◌*◌, ◌<◌, ◌≤◌, true, length, take, Ok, Err, Result, vec_items, sym, refl, ap, ◌∙◌, mul-le-mul_right, arith, lit<}
use Rattle.std.proofs.lemmas.Grind.{common_steps}
use Rattle.std.proofs.lemmas.Bool.{cond-true}
use Rattle.std.specs.Result.{IsErrAnd}
use Rattle.bounds.specs.Boards.{sound}
use Rattle.bounds.specs.Laws.{Meaning}
use Rattle.board.specs.declared.board.Board.{Board}
use Rattle.board.specs.declared.board.trials.Slip.{Slip}
use Rattle.board.specs.declared.refusal.Refusal.{Refusal}
use Rattle.board.specs.declared.refusal.Refusal.TheVariants.{Gone}
use Rattle.board.specs.Calls.{Trial, refusal, keep, older, at, Does}
use Rattle.board.specs.Held.{state, event_of_keep, event_of_drop, Places, trials_of, trial_at, slot}
use Rattle.board.proofs.Granted.{gone, found}
use Rattle.board.proofs.Sounds.{sound_fewer, sound_part}
use Rattle.board.proofs.Slots.{room_for}

module _ (b : Board) where
  -- of what is saved the front that the trials still hold is sound
  pub fewer_sound : (p : ℕ) → p ≤ b.control.depth → sound (take (p * b.control.cells) (vec_items b.saved)) ≡ true
  fewer_sound p h = sound_fewer (p * b.control.cells) (b.control.depth * b.control.cells) (vec_items b.saved) (mul-le-mul_right b.control.cells h) b.saved_sound

  pub keep_granted : (k p : ℕ) → Places b.control k (Ok p) → refusal (state b) (keep k) ≡ 0
  keep_granted k p h = cond-true _ _ _ (found b k p h).is_open_is

  pub older_are : (k p : ℕ) → Places b.control k (Ok p) → trials_of b.control.cells b.control.trials (vec_items b.saved) p ≡ older k (state b).trials
  older_are k p h = sym (found b k p h).rest_is

  refused : (k : ℕ) (r : Result (Unit {0}) Refusal) (e : Refusal) → IsErrAnd r (λ x. x ≡ e) → Places b.control k (Err e)
      → (r ≡ Err Gone) × (refusal (state b) (keep k) ≡ 14)
  refused k (Ok x) e h p = absurd h
  refused k (Err x) e h p = (ap Err (h ∙ p.0), gone b k p.1)

  pub keep_refused : (m : Meaning) (s : Slip) (r : Result (Unit {0}) Refusal) (e : Refusal) → IsErrAnd r (λ x. x ≡ e) → Places b.control s.serial (Err e)
      → Does m (state b) (event_of_keep s r) (state b)
  keep_refused m s r e h p = let (is, why) = refused s.serial r e h p in rw is (why, lit< tt, refl)

  pub drop_refused : (m : Meaning) (s : Slip) (r : Result (Unit {0}) Refusal) (e : Refusal) → IsErrAnd r (λ x. x ≡ e) → Places b.control s.serial (Err e)
      → Does m (state b) (event_of_drop s r) (state b)
  drop_refused m s r e h p = let (is, why) = refused s.serial r e h p in rw is (why, lit< tt, refl)

  -- the rows that a trial saved
  pub saved_part : (p : ℕ) → p < b.control.depth → sound (slot b.control.cells p (vec_items b.saved)) ≡ true
  saved_part p h = sound_part (p * b.control.cells) b.control.cells (b.control.depth * b.control.cells) (vec_items b.saved) (room_for b.control.cells p b.control.depth h) b.saved_sound

  pub saved_room : (p : ℕ) → p < b.control.depth → p * b.control.cells + b.control.cells ≤ length (vec_items b.saved)
  saved_room p h = omega (arith, room_for b.control.cells p 16 (omega (arith, h, b.shallow)), b.trial_room, b.saved.ok.0)

  pub drop_is : (k p : ℕ) → Places b.control k (Ok p) → (x : Trial) → trial_at b.control.cells b.control.trials (vec_items b.saved) p ≡ at k (state b).trials x
  drop_is k p h x = sym ((found b k p h).trial_is x)

pub ruleset closing = (common_steps, fewer_sound, keep_granted, older_are, saved_part, saved_room, drop_is)
