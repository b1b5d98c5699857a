-- The seven calls on a board: when each is refused, what it answers, and the state that it leaves.
use Rattle.std.specs.Prelude.{◌≡◌, ℕ, ◌+◌, ◌*◌, ◌<◌, Bool, true, false, cond, List, [], ◌∷◌, length, ◌==◌, nat_le, nat_lt, slice_index_or, slice_set}
use Rattle.bounds.specs.declared.row.Row.{Row}
use Rattle.bounds.specs.Boards.{Board, void, cells, Lies, none_row}
use Rattle.bounds.specs.Cells.{common}
use Rattle.bounds.specs.Laws.{Meaning}
use Rattle.settling.specs.Plans.{First, NoPlan, Still, Lowest, Applies}

-- An open trial: what it saved, and the serial of the slip that closes it.
pub record Trial : Type 0 where
  pub serial : ℕ
  pub was_void : Bool
  pub was_rows : List Row

-- A board with its open trials, the newest first; a void board still holds rows.
pub record State : Type 0 where
  pub is_void : Bool
  pub rows : List Row
  pub given : ℕ
  pub trials : List Trial

abbrev pub board : State → Board
board s = cond s.is_void void (cells s.rows)

-- a job's board as read, with no trial open
abbrev pub as_read : List Row → State
as_read job = record { is_void = false; rows = job; given = 0; trials = [] }

abbrev pub is_open : ℕ → List Trial → Bool
is_open k [] = false
is_open k (t ∷ ts) = cond (t.serial == k) true (is_open k ts)

-- the trials older than that of the serial, and what that one saved
abbrev pub older : ℕ → List Trial → List Trial
older k [] = []
older k (t ∷ ts) = cond (t.serial == k) ts (older k ts)

abbrev pub at : ℕ → List Trial → Trial → Trial
at k [] d = d
at k (t ∷ ts) d = cond (t.serial == k) t (at k ts d)

pub data Call : Type 0 where
  tighten : (cell low high : ℕ) → Call
  opening : Call
  keep : (serial : ℕ) → Call
  drop : (serial : ℕ) → Call
  ask : (cell : ℕ) → Call
  settle : Call
  seek : (plan_room scratch_room : ℕ) → Call

-- The number of the first reason to refuse the call, or 0: 9 a missing cell, 10 a low above its high, 11 a void board,
-- 12 sixteen trials open, 13 all serials given out, 14 no open trial of that serial, 15 too little room to seek.
abbrev pub refusal : State → Call → ℕ
refusal s (tighten c l h) =
    cond (nat_lt c (length s.rows)) (cond (nat_le l h) (cond s.is_void 11 0) 10) 9
refusal s opening = cond (nat_lt (length s.trials) 16) (cond (nat_lt s.given 4294967295) 0 13) 12
refusal s (keep k) = cond (is_open k s.trials) 0 14
refusal s (drop k) = cond (is_open k s.trials) 0 14
refusal s (ask c) = cond (nat_lt c (length s.rows)) (cond s.is_void 11 0) 9
refusal s settle = 0
refusal s (seek pr sr) =
    let n = length s.rows in cond (nat_le n pr) (cond (nat_le ((n + 1) * n) sr) 0 15) 15

-- A call with its outcome.
pub data Event : Type 0 where
  refused : Call → (number : ℕ) → Event
  tightened : (cell low high : ℕ) → Event
  opened : (serial : ℕ) → Event
  kept : (serial : ℕ) → Event
  dropped : (serial : ℕ) → Event
  asked : (cell low high : ℕ) → Event
  settled : (applied : ℕ) → Event
  emptied : (applied : ℕ) → Event
  found : (plan_room scratch_room : ℕ) → List ℕ → Event
  none_found : (plan_room scratch_room : ℕ) → Event

abbrev pub with_board : State → Bool → List Row → State
with_board s v rs = record { is_void = v; rows = rs; given = s.given; trials = s.trials }

abbrev pub with_trials : State → List Trial → State
with_trials s ts = record { is_void = s.is_void; rows = s.rows; given = s.given; trials = ts }

-- the counts common to both ranges; with none the board turns void and its rows stay
abbrev pub after_tighten : State → ℕ → ℕ → ℕ → State
after_tighten s c l h =
    let r = common (slice_index_or s.rows c none_row) l h in
    cond (nat_le r.low r.high) (with_board s false (slice_set s.rows c r)) (with_board s true s.rows)

abbrev pub after_open : State → State
after_open s = record {
  is_void = s.is_void;
  rows = s.rows;
  given = s.given + 1;
  trials = record { serial = s.given + 1; was_void = s.is_void; was_rows = s.rows } ∷ s.trials;
}

abbrev pub after_drop : State → ℕ → State
after_drop s k =
    let t = at k s.trials (record { serial = 0; was_void = s.is_void; was_rows = s.rows }) in
    record { is_void = t.was_void; rows = t.was_rows; given = s.given; trials = older k s.trials }

-- on a void board a settle answers void and 0; else the last of its applications voids the board, whose rows stay
abbrev pub Empties : Meaning → State → ℕ → State → Bool → Type 0
Empties m s n t true = (n ≡ 0) × (t ≡ s)
Empties m s n t false =
    (k r : ℕ) × (n ≡ k + 1) × Applies m s.rows t.rows k × Lowest m t.rows r
    × ((m.rule r).narrowed t.rows ≡ void) × (t ≡ with_board s true t.rows)

-- what a call does on the state s, where t is the state that it leaves
abbrev pub Does : Meaning → State → Event → State → Type 0
Does m s (refused c n) t = (refusal s c ≡ n) × (0 < n) × (t ≡ s)
Does m s (tightened c l h) t = (refusal s (tighten c l h) ≡ 0) × (t ≡ after_tighten s c l h)
Does m s (opened k) t = (refusal s opening ≡ 0) × (k ≡ s.given + 1) × (t ≡ after_open s)
Does m s (kept k) t = (refusal s (keep k) ≡ 0) × (t ≡ with_trials s (older k s.trials))
Does m s (dropped k) t = (refusal s (drop k) ≡ 0) × (t ≡ after_drop s k)
Does m s (asked c l h) t =
    (refusal s (ask c) ≡ 0) × (slice_index_or s.rows c none_row ≡ record { low = l; high = h }) × (t ≡ s)
Does m s (settled n) t =
    (s.is_void ≡ false) × Applies m s.rows t.rows n × Still m (cells t.rows) × (t ≡ with_board s false t.rows)
Does m s (emptied n) t = Empties m s n t s.is_void
Does m s (found pr sr p) t = (refusal s (seek pr sr) ≡ 0) × First m (λ q. Lies q (board s)) p × (t ≡ s)
Does m s (none_found pr sr) t = (refusal s (seek pr sr) ≡ 0) × NoPlan m (λ q. Lies q (board s)) × (t ≡ s)
