-- The state that a board in memory holds, and the event that an answer is.
use Rattle.std.specs.Prelude.{◌≡◌, ℕ, zero, suc, ◌+◌, ◌*◌, ◌<◌, ◌≢◌, List, [], ◌∷◌, length, take, drop, Ok, Err, vec_items, vec_len, Result, slice_index_or}
use Rattle.bounds.specs.declared.row.Row.{Row}
use Rattle.bounds.specs.declared.cell.Cell.{Cell}
use Rattle.board.specs.declared.control.Trial.{Trial}
use Rattle.board.specs.declared.control.Control.{Control}
use Rattle.board.specs.declared.board.Board.{Board}
use Rattle.board.specs.declared.refusal.Refusal.{Refusal}
use Rattle.board.specs.declared.refusal.Refusal.TheVariants as refusal
use Rattle.board.specs.declared.board.trials.Slip.{Slip}
use Rattle.settling.specs.declared.settled.Settled.{Settled}
use Rattle.settling.specs.declared.settled.Settled.TheVariants as settle
use Rattle.board.specs.Records.{none_trial}
use Rattle.bounds.specs.Laws.{Meaning}
use Rattle.board.specs.Calls as calls
use Rattle.board.specs.Calls.{State, Call, Event, refused, tightened, opened, kept, dropped, asked, settled, emptied, Does}

abbrev pub number : Refusal → ℕ
number refusal.Cell = 9
number refusal.Range = 10
number refusal.Void = 11
number refusal.Depth = 12
number refusal.Serial = 13
number refusal.Gone = 14
number refusal.Room = 15

-- the rows of the trial at the place d of the trial memory, n to a trial
abbrev pub slot : ℕ → ℕ → List Row → List Row
slot n d saved = take n (drop (d * n) saved)

abbrev pub trial_at : ℕ → List Trial → List Row → ℕ → calls.Trial
trial_at n ts saved d = let t = slice_index_or ts d none_trial in
    record { serial = t.serial; was_void = t.void; was_rows = slot n d saved }

-- the first d trials, the newest first
abbrev pub trials_of : ℕ → List Trial → List Row → ℕ → List calls.Trial
trials_of n ts saved zero = []
trials_of n ts saved (suc d) = trial_at n ts saved d ∷ trials_of n ts saved d

abbrev pub state_of : Control → List Row → List Row → State
state_of k rows saved = record {
  is_void = k.void;
  rows = take k.cells rows;
  given = k.given;
  trials = trials_of k.cells k.trials saved k.depth;
}

abbrev pub state : Board → State
state b = state_of b.control (vec_items b.rows) (vec_items b.saved)

-- the call, granted with what was made of the value, or refused
abbrev pub event_of : {A : Type 0} → Call → (A → Event) → Result A Refusal → Event
event_of call granted (Ok x) = granted x
event_of call granted (Err e) = refused call (number e)

abbrev pub event_of_ask : ℕ → Result Cell Refusal → Event
event_of_ask c = event_of (calls.ask c) (λ x. asked c x.low x.high)

abbrev pub event_of_tighten : ℕ → ℕ → ℕ → Result (Unit {0}) Refusal → Event
event_of_tighten c l h = event_of (calls.tighten c l h) (λ _. tightened c l h)

abbrev pub event_of_open : Result Slip Refusal → Event
event_of_open = event_of calls.opening (λ s. opened s.serial)

abbrev pub event_of_keep : Slip → Result (Unit {0}) Refusal → Event
event_of_keep s = event_of (calls.keep s.serial) (λ _. kept s.serial)

abbrev pub event_of_drop : Slip → Result (Unit {0}) Refusal → Event
event_of_drop s = event_of (calls.drop s.serial) (λ _. dropped s.serial)

abbrev pub event_of_settle : Settled → Event
event_of_settle (settle.Settled n) = settled n
event_of_settle (settle.Void n) = emptied n

-- what the call did, whatever the family of rules
abbrev pub Did : Board → Event → Board → Type 0
Did b e c = (m : Meaning) → Does m (state b) e (state c)

-- the memory past the board's rows stays, and so do the sizes
pub record Frame (b c : Board) : Type 0 where
  pub cells : c.control.cells ≡ b.control.cells
  pub past : drop b.control.cells (vec_items c.rows) ≡ drop b.control.cells (vec_items b.rows)
  pub rows_room : vec_len c.rows ≡ vec_len b.rows
  pub saved_room : vec_len c.saved ≡ vec_len b.saved

-- of both memories only the board's rows may change
pub record OnlyRows (b c : Board) : Type 0 where
  pub frame : Frame b c
  pub saved : vec_items c.saved ≡ vec_items b.saved

-- the trial memory outside the place d stays
pub record Outside (b c : Board) (d : ℕ) : Type 0 where
  pub before : take (d * b.control.cells) (vec_items c.saved) ≡ take (d * b.control.cells) (vec_items b.saved)
  pub after : drop ((d + 1) * b.control.cells) (vec_items c.saved) ≡ drop ((d + 1) * b.control.cells) (vec_items b.saved)

-- ys is xs with the rows written over it at the place
pub record Pasted (place : ℕ) (rows xs ys : List Row) : Type 0 where
  pub before : take place ys ≡ take place xs
  pub middle : take (length rows) (drop place ys) ≡ rows
  pub after : drop (place + length rows) ys ≡ drop (place + length rows) xs

-- the place of the newest open trial of the serial k, or that it is gone
abbrev pub Places : Control → ℕ → Result ℕ Refusal → Type 0
Places c k (Ok p) =
    (p < c.depth) × ((slice_index_or c.trials p none_trial).serial ≡ k) × ((i : ℕ) → p < i → i < c.depth → (slice_index_or c.trials i none_trial).serial ≢ k)
Places c k (Err e) = (e ≡ refusal.Gone) × ((i : ℕ) → i < c.depth → (slice_index_or c.trials i none_trial).serial ≢ k)
