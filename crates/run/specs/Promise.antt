-- What holds after every call of every run, whatever the family.
use Rattle.std.specs.Prelude.{◌≡◌, ℕ, ◌+◌, ◌≤◌, true, cond, List, [], ◌∷◌, map, slice_index}
use Rattle.bounds.specs.declared.row.Row.{Row}
use Rattle.bounds.specs.Boards.{Board, void, cells, sound, Real, Within, Lies, Fills, Fixed, width}
use Rattle.bounds.specs.Laws.{Meaning}
use Rattle.board.specs.Calls.{State, Trial, board, as_read, Event, refused, tightened, opened, kept, dropped, asked, settled, emptied, found, none_found}
use Rattle.settling.specs.Plans.{Plan, First, NoPlan, Still, AllAllowed, Widest}
use Rattle.run.specs.Runs.{Leads, here, then, Run, call_in, Range, Note, Ledger, ledger, tally}

-- each count is in all ranges on its cell
abbrev pub InRanges : List Range → List ℕ → Type 0
InRanges [] p = Unit {0}
InRanges (g ∷ gs) p = (g.low ≤ slice_index p g.cell) × (slice_index p g.cell ≤ g.high) × InRanges gs p

-- the filling is within the job's bounds and the tightenings
abbrev pub Allowed : List Row → List Range → List ℕ → Type 0
Allowed job gs p = Fills p job × InRanges gs p

-- of the boards within the job's bounds and the tightenings that no rule narrows, there is none but the void one
abbrev pub OnlyVoid : Meaning → List Row → List Range → Type 0
OnlyVoid m job gs = (c : Board) → Real c → Still m c → AllAllowed (Allowed job gs) c → c ≡ void

-- what the newest answer says, with gs in force and the state s left
abbrev pub Newest : Meaning → List Row → List Range → State → List Event → Type 0
Newest m job gs s [] = Unit {0}
Newest m job gs s (settled n ∷ es) =
    Widest m (Allowed job gs) (board s) × (OnlyVoid m job gs → ⊥) × ((p : List ℕ) → Fixed s.rows p → Plan m p)
Newest m job gs s (emptied n ∷ es) = Widest m (Allowed job gs) (board s) × (board s ≡ void) × OnlyVoid m job gs
Newest m job gs s (found pr sr p ∷ es) = First m (Allowed job gs) p
Newest m job gs s (none_found pr sr ∷ es) = NoPlan m (Allowed job gs)
Newest m job gs s (refused c n ∷ es) = Unit {0}
Newest m job gs s (tightened c l h ∷ es) = Unit {0}
Newest m job gs s (opened k ∷ es) = Unit {0}
Newest m job gs s (kept k ∷ es) = Unit {0}
Newest m job gs s (dropped k ∷ es) = Unit {0}
Newest m job gs s (asked c l h ∷ es) = Unit {0}

-- The promise after a run, whose events es led to the state s.
pub record Kept (m : Meaning) (job : List Row) (es : List Event) (s : State) (run : Run m job es s) : Type 0 where
  -- no plan within the job's bounds and the tightenings in force is lost
  pub plans : (p : List ℕ) → Plan m p → Allowed job (ledger es).in_force p → Lies p (board s)
  pub newest : Newest m job (ledger es).in_force s es
  -- the narrowings reported are at most the width that was there less the width that is left
  pub bound : (tally run).narrowings + width (board s) ≤ (tally run).left

abbrev pub Promise : Meaning → Type 0
Promise m = (job : List Row) → sound job ≡ true → (es : List Event) (s : State) (run : Run m job es s) → Kept m job es s run

-- the promise at the start, and after each of the events
abbrev pub KeptThroughout : {m : Meaning} {job : List Row} {es : List Event} {s : State} → Run m job es s → Type 0
KeptThroughout {m = m} {job = job} here = Kept m job [] (as_read job) here
KeptThroughout {m = m} {job = job} (then {es = es} run e t d) = KeptThroughout run × Kept m job (e ∷ es) t (then run e t d)

-- The calls determine the run: the answers and the states.
abbrev pub Determined : Meaning → Type 0
Determined m = (start : State) (es fs : List Event) (s t : State) → Leads m start es s → Leads m start fs t
    → map call_in es ≡ map call_in fs → (es ≡ fs) × (s ≡ t)

-- The board lies within what is allowed; every allowed plan lies in it, and so does every allowed board that no rule narrows.
pub record Encloses (m : Meaning) (Among : List ℕ → Type 0) (b : Board) : Type 0 where
  pub real : Real b
  pub allowed : AllAllowed Among b
  pub plans : (p : List ℕ) → Plan m p → Among p → Lies p b
  pub widest : (c : Board) → Real c → Still m c → AllAllowed Among c → Within c b

-- what a trial saved, as a board
abbrev pub saved : Trial → Board
saved t = cond t.was_void void (cells t.was_rows)

-- the open trials and the ledger's notes have the same serials in the same order, and what was saved encloses what was in force
abbrev pub InStep : Meaning → List Row → List Trial → List Note → Type 0
InStep m job [] [] = Unit {0}
InStep m job [] (n ∷ ns) = ⊥
InStep m job (t ∷ ts) [] = ⊥
InStep m job (t ∷ ts) (n ∷ ns) = (t.serial ≡ n.serial) × Encloses m (Allowed job n.force) (saved t) × InStep m job ts ns

pub record Accounted (m : Meaning) (job : List Row) (b : Ledger) (s : State) : Type 0 where
  pub current : Encloses m (Allowed job b.in_force) (board s)
  pub trials : InStep m job s.trials b.notes

-- The ledger accounts for every state that a run leads to.
abbrev pub Accounts : Meaning → Type 0
Accounts m = (job : List Row) → sound job ≡ true → (es : List Event) (s : State) → Run m job es s → Accounted m job (ledger es) s
