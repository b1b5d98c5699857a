-- What a caller answers and leaves behind that tries something and goes back.
use Rattle.std.specs.Prelude.{◌≡◌, ℕ, ◌+◌, Bool, cond, ◌&&◌, ◌==◌, nat_le, Ok, Err, Result, slice_index_or}
use Rattle.bounds.specs.Boards.{none_row}
use Rattle.bounds.specs.Cells.{common}
use Rattle.bounds.specs.Laws.{Meaning, idle}
use Rattle.board.specs.declared.board.Board.{Board}
use Rattle.board.specs.declared.refusal.Refusal.{Refusal}
use Rattle.board.specs.Calls.{State, board, Event, Does, refusal, opening, tighten, after_tighten}
use Rattle.board.specs.Held.{state, number}

-- the board and the open trials are as they were; only serials may have been given out
pub record LeftAsFound (b c : Board) : Type 0 where
  pub same_board : board (state c) ≡ board (state b)
  pub same_trials : (state c).trials ≡ (state b).trials

-- any family will do
abbrev pub none : Meaning
none = record { size = 0; rule = λ _. idle }

-- what the call did, in which no rule has a say
abbrev pub DoesAlone : Board → Event → Board → Type 0
DoesAlone b e c = Does none (state b) e (state c)

-- whether the range and the cell have a count in common
abbrev pub shares : State → ℕ → ℕ → ℕ → Bool
shares s c l h = let r = common (slice_index_or s.rows c none_row) l h in nat_le r.low r.high

-- tightened, with whether that leaves a count, or refused
abbrev pub Leaves : State → ℕ → ℕ → ℕ → Result Bool Refusal → State → Type 0
Leaves s c l h (Ok b) t = (refusal s (tighten c l h) ≡ 0) × (b ≡ shares s c l h) × (t ≡ after_tighten s c l h)
Leaves s c l h (Err e) t = (refusal s (tighten c l h) ≡ number e) × (t ≡ s)

-- the first reason to refuse, or the second, or 0
abbrev pub either : ℕ → ℕ → ℕ
either n m = cond (n == 0) m n

-- why a try of the range on the cell is refused, or 0: its trial is, or the range
abbrev pub refusal_of_try : State → ℕ → ℕ → ℕ → ℕ
refusal_of_try s c l h = either (refusal s opening) (refusal s (tighten c l h))

-- whether the range leaves the cell a count, or why its try is refused
abbrev pub Tells : State → ℕ → ℕ → ℕ → Result Bool Refusal → Type 0
Tells s c l h (Ok b) = (refusal_of_try s c l h ≡ 0) × (b ≡ shares s c l h)
Tells s c l h (Err e) = refusal_of_try s c l h ≡ number e

-- the state after a try that was taken back
abbrev pub tried : State → State
tried s = record { is_void = s.is_void; rows = s.rows; given = s.given + 1; trials = s.trials }

-- the high end is tried only where the cell may have the low one
abbrev pub refusal_of_both : State → ℕ → ℕ → ℕ → ℕ
refusal_of_both s c l h = either (refusal_of_try s c l l) (cond (shares s c l l) (refusal_of_try (tried s) c h h) 0)

-- whether the cell may have each end of the range as its count, or why one of the tries is refused
abbrev pub TellsOfBoth : State → ℕ → ℕ → ℕ → Result Bool Refusal → Type 0
TellsOfBoth s c l h (Ok b) = (refusal_of_both s c l h ≡ 0) × (b ≡ (shares s c l l && shares s c h h))
TellsOfBoth s c l h (Err e) = refusal_of_both s c l h ≡ number e
