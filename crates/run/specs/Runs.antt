-- Runs of calls, the ledger of the tightenings in force, and the narrowings reported.
use Rattle.std.specs.Prelude.{ℕ, ◌+◌, cond, List, [], ◌∷◌, ◌++◌, ◌==◌}
use Rattle.bounds.specs.declared.row.Row.{Row}
use Rattle.bounds.specs.Boards.{width}
use Rattle.bounds.specs.Laws.{Meaning}
use Rattle.board.specs.Calls as calls
use Rattle.board.specs.Calls.{State, board, as_read, Event, refused, tightened, opened, kept, dropped, asked, settled, emptied, found, none_found, Does}

-- the events, the newest first, lead from one state to another: each call is made on the state that the one before it left
pub data Leads (m : Meaning) (start : State) : List Event → State → Type 0 where
  here : Leads m start [] start
  then : {es : List Event} {s : State} → Leads m start es s → (e : Event) (t : State) → Does m s e t → Leads m start (e ∷ es) t

-- the events so far lead from the job as read to the state
abbrev pub Run : Meaning → List Row → List Event → State → Type 0
Run m job es s = Leads m (as_read job) es s

-- one run, and another from where it led
abbrev pub joined : {m : Meaning} {r s t : State} {es fs : List Event} → Leads m r es s → Leads m s fs t → Leads m r (fs ++ es) t
joined before here = before
joined before (then after e t d) = then (joined before after) e t d

-- the call that the event is of, with its arguments
abbrev pub call_in : Event → calls.Call
call_in (refused c n) = c
call_in (tightened c l h) = calls.tighten c l h
call_in (opened k) = calls.opening
call_in (kept k) = calls.keep k
call_in (dropped k) = calls.drop k
call_in (asked c l h) = calls.ask c
call_in (settled n) = calls.settle
call_in (emptied n) = calls.settle
call_in (found pr sr p) = calls.seek pr sr
call_in (none_found pr sr) = calls.seek pr sr

-- a tightening: the range that it asks of a cell's count
pub record Range : Type 0 where
  pub cell : ℕ
  pub low : ℕ
  pub high : ℕ

-- what was in force when the trial of the serial was opened
pub record Note : Type 0 where
  pub serial : ℕ
  pub force : List Range

-- the tightenings in force, and a note for each trial that no granted keep or drop has closed, the newest first
pub record Ledger : Type 0 where
  pub in_force : List Range
  pub notes : List Note

abbrev page : List Range → List Note → Ledger
page f ns = record { in_force = f; notes = ns }

-- the notes made before that of the serial
abbrev pub earlier : ℕ → List Note → List Note
earlier k [] = []
earlier k (n ∷ ns) = cond (n.serial == k) ns (earlier k ns)

-- what was noted with the serial
abbrev pub noted : ℕ → List Note → List Range
noted k [] = []
noted k (n ∷ ns) = cond (n.serial == k) n.force (noted k ns)

-- of a call the ledger is told its arguments, whether it was granted, and the serial that a granted open gave
abbrev pub enter : Event → Ledger → Ledger
enter (tightened c l h) b = page (record { cell = c; low = l; high = h } ∷ b.in_force) b.notes
enter (opened k) b = page b.in_force (record { serial = k; force = b.in_force } ∷ b.notes)
enter (kept k) b = page b.in_force (earlier k b.notes)
enter (dropped k) b = page (noted k b.notes) (earlier k b.notes)
enter (refused c n) b = b
enter (asked c l h) b = b
enter (settled n) b = b
enter (emptied n) b = b
enter (found pr sr p) b = b
enter (none_found pr sr) b = b

abbrev pub ledger : List Event → Ledger
ledger [] = page [] []
ledger (e ∷ es) = enter e (ledger es)

-- the width that the last granted drop left, or else the first board's, and the narrowings that settles reported since
pub record Tally : Type 0 where
  pub left : ℕ
  pub narrowings : ℕ

abbrev plus : ℕ → Tally → Tally
plus n y = record { left = y.left; narrowings = y.narrowings + n }

-- where the event led to the state t
abbrev pub count : Event → State → Tally → Tally
count (dropped k) t y = record { left = width (board t); narrowings = 0 }
count (settled n) t y = plus n y
count (emptied n) t y = plus n y
count (refused c n) t y = y
count (tightened c l h) t y = y
count (opened k) t y = y
count (kept k) t y = y
count (asked c l h) t y = y
count (found pr sr p) t y = y
count (none_found pr sr) t y = y

abbrev pub tally : {m : Meaning} {start : State} {es : List Event} {s : State} → Leads m start es s → Tally
tally {start = start} here = record { left = width (board start); narrowings = 0 }
tally (then run e t d) = count e t (tally run)
