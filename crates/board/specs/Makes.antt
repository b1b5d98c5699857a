-- When memory makes a board.
use Rattle.std.specs.Prelude.{◌≡◌, ℕ, ◌*◌, cond, ◌&&◌, List, take, Some, None, Ok, Err, vec_items, vec_len, Option, Result, Vec, nat_le}
use Rattle.std.specs.declared.alloc.Global.{Global}
use Rattle.bounds.specs.declared.row.Row.{Row}
use Rattle.bounds.specs.Boards.{sound}
use Rattle.board.specs.declared.board.Board.{Board}
use Rattle.board.specs.declared.unfit.Unfit.{Unfit}
use Rattle.board.specs.declared.unfit.Unfit.TheVariants.{Size, Room, Unsound}
use Rattle.board.specs.declared.unfit.Refused.{Refused}
use Rattle.board.specs.Calls.{as_read}
use Rattle.board.specs.Held.{state}

-- why n rows make no board in memory for so many rows and so many saved ones: not 1 to 1,024 of them, too little memory,
-- a low above its high
abbrev pub unfit : ℕ → List Row → ℕ → ℕ → Option Unfit
unfit n rows room trial_room =
    cond (nat_le 1 n && nat_le n 1024) (cond (nat_le n room && nat_le (16 * n) trial_room) (cond (sound rows) None (Some Unsound)) (Some Room)) (Some Size)

-- the same of the sizes alone
abbrev pub roomless : ℕ → ℕ → ℕ → Option Unfit
roomless n room trial_room =
    cond (nat_le 1 n && nat_le n 1024) (cond (nat_le n room && nat_le (16 * n) trial_room) None (Some Room)) (Some Size)

-- an answer that gives the reason, if there is one
abbrev pub Tells : Option Unfit → Result (Unit {0}) Unfit → Type 0
Tells reason (Ok x) = reason ≡ None
Tells reason (Err why) = reason ≡ Some why

abbrev pub Makes : Vec Row Global → Vec Row Global → ℕ → Result Board Refused → Type 0
Makes rows saved n (Ok b) =
    (unfit n (take n (vec_items rows)) (vec_len rows) (vec_len saved) ≡ None) × (b.rows ≡ rows) × (b.saved ≡ saved) × (state b ≡ as_read (take n (vec_items rows)))
Makes rows saved n (Err e) =
    (unfit n (take n (vec_items rows)) (vec_len rows) (vec_len saved) ≡ Some e.why) × (e.rows ≡ rows) × (e.saved ≡ saved)
