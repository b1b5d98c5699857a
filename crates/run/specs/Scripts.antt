-- A script's calls, with their answers, as events.
use Rattle.std.specs.Prelude.{◌≡◌, ℕ, ◌+◌, ◌-◌, ◌*◌, ◌<◌, min, Bool, true, false, cond, List, [], ◌∷◌, ◌++◌, length, slice_index_or, slice_set, take, drop, vec_items}
use Rattle.bounds.specs.declared.row.Row.{Row}
use Rattle.bounds.specs.Boards.{sound}
use Rattle.bounds.specs.Laws.{Meaning, FiveLaws}
use Rattle.board.specs.declared.board.Board.{Board}
use Rattle.board.specs.declared.refusal.Refusal.{Refusal}
use Rattle.board.specs.Calls as calls
use Rattle.board.specs.Calls.{Event, refused, tightened, opened, kept, dropped, asked, settled, emptied, found, none_found, Does}
use Rattle.board.specs.Held.{number, state, Frame}
use Rattle.run.specs.declared.call.Call.{Call}
use Rattle.run.specs.declared.call.Call.TheVariants as call
use Rattle.run.specs.declared.answer.Answer.{Answer}
use Rattle.run.specs.declared.answer.Answer.TheVariants as answer
use Rattle.run.specs.Runs.{Leads, Run, then, joined, call_in}
use Rattle.run.specs.Promise.{Kept, KeptThroughout}

-- the call, where so many counts of plan memory and rows of scratch are lent
abbrev pub call_of : ℕ → ℕ → Call → calls.Call
call_of pr sr (call.Tighten c l h) = calls.tighten c l h
call_of pr sr call.Open = calls.opening
call_of pr sr (call.Keep k) = calls.keep k
call_of pr sr (call.Drop k) = calls.drop k
call_of pr sr (call.Ask c) = calls.ask c
call_of pr sr call.Settle = calls.settle
call_of pr sr call.Seek = calls.seek pr sr

-- what is answered at the event, where plan memory was used up to the place u
abbrev pub Answers : ℕ → Event → Answer → Type 0
Answers u (refused c n) a = (e : Refusal) × (n ≡ number e) × (a ≡ answer.Refused e)
Answers u (tightened c l h) a = a ≡ answer.Granted
Answers u (opened k) a = a ≡ answer.Slip k
Answers u (kept k) a = a ≡ answer.Granted
Answers u (dropped k) a = a ≡ answer.Granted
Answers u (asked c l h) a = a ≡ answer.Cell c l h
Answers u (settled n) a = a ≡ answer.Settled n
Answers u (emptied n) a = a ≡ answer.Void n
Answers u (found pr sr p) a = a ≡ answer.Plan u (u + length p)
Answers u (none_found pr sr) a = a ≡ answer.NoPlan

-- the counts of the plan that the event found
abbrev pub plan_of : Event → List ℕ
plan_of (found pr sr p) = p
plan_of (refused c n) = []
plan_of (tightened c l h) = []
plan_of (opened k) = []
plan_of (kept k) = []
plan_of (dropped k) = []
plan_of (asked c l h) = []
plan_of (settled n) = []
plan_of (emptied n) = []
plan_of (none_found pr sr) = []

-- whether the event is a seek that was granted, which may write over the scratch
abbrev pub searches : Event → Bool
searches (found pr sr p) = true
searches (none_found pr sr) = true
searches (refused c n) = false
searches (tightened c l h) = false
searches (opened k) = false
searches (kept k) = false
searches (dropped k) = false
searches (asked c l h) = false
searches (settled n) = false
searches (emptied n) = false

-- memory past the board's rows, and past the room for sixteen trials, stays
pub record Stays (b c : Board) : Type 0 where
  pub frame : Frame b c
  pub past_trials : drop (16 * b.control.cells) (vec_items c.saved) ≡ drop (16 * b.control.cells) (vec_items b.saved)

-- The call was made on the board b and left c, with plan memory used up to the place u; plan memory went from p to q, where
-- a plan that was found is written from that place on, and scratch from s to t.
pub record Made (m : Meaning) (b c : Board) (u : ℕ) (p q : List ℕ) (s t : List Row) (x : Call) (a : Answer) : Type 0 where
  pub event : Event
  pub asks : call_in event ≡ call_of (length p - u) (length s) x
  pub answers : Answers u event a
  pub does : Does m (state b) event (state c)
  pub stays : Stays b c
  pub plan : q ≡ take u p ++ plan_of event ++ drop (u + length (plan_of event)) p
  pub scratch : searches event ≡ false → t ≡ s
  -- the promise is kept after it, whatever run led to the board
  pub keeps : (job : List Row) → sound job ≡ true → (es : List Event) (earlier : Run m job es (state b))
      → Kept m job (event ∷ es) (state c) (then earlier event (state c) does)

-- the call was made and answered, whatever the family and the memory lent
abbrev pub MadeAlone : Board → Board → Call → Answer → Type 0
MadeAlone b c x a = (m : Meaning) → FiveLaws m → (u : ℕ) (p : List ℕ) (s : List Row) → Made m b c u p p s s x a

-- the plans that the events, the newest first, found: one after another, the oldest first
abbrev pub plans : List Event → List ℕ
plans [] = []
plans (e ∷ es) = plans es ++ plan_of e

-- whether one of the events is a seek that was granted
abbrev pub some_searches : List Event → Bool
some_searches [] = false
some_searches (e ∷ es) = cond (searches e) true (some_searches es)

-- The events, the newest first, are the calls with their answers, the oldest first, where pr counts of plan memory and sr rows
-- of scratch are lent. A seek has the plan memory past the plans that were found before it.
pub data Logs (pr sr : ℕ) : List Call → List Answer → List Event → Type 0 where
  none : Logs pr sr [] [] []
  one_more : {xs : List Call} {answers : List Answer} {es : List Event} → Logs pr sr xs answers es → (x : Call) (a : Answer) (e : Event)
      → call_in e ≡ call_of (pr - length (plans es)) sr x → Answers (length (plans es)) e a → Logs pr sr (xs ++ x ∷ []) (answers ++ a ∷ []) (e ∷ es)

-- The calls xs were made in turn from the board b on and answered; they left c, and took plan memory from p to q, with their
-- plans at its front, and scratch from s to t.
pub record Ran (m : Meaning) (b c : Board) (p q : List ℕ) (s t : List Row) (xs : List Call) (answers : List Answer) : Type 0 where
  pub events : List Event
  pub logs : Logs (length p) (length s) xs answers events
  pub leads : Leads m (state b) events (state c)
  pub stays : Stays b c
  pub plan : q ≡ plans events ++ drop (length (plans events)) p
  pub scratch : some_searches events ≡ false → t ≡ s
  -- the promise is kept after each of them, whatever run led to the board b
  pub keeps : (job : List Row) → sound job ≡ true → (es : List Event) (earlier : Run m job es (state b)) → KeptThroughout (joined earlier leads)

-- The first n of the calls were made and answered at their places, where answers went from was to now; their plans take
-- plan memory up to the place u.
pub record Reached (m : Meaning) (b c : Board) (p q : List ℕ) (s t : List Row) (xs : List Call) (was now : List Answer) (n u : ℕ) : Type 0 where
  pub ran : Ran m b c p q s t (take n xs) (take n now)
  pub past : drop n now ≡ drop n was
  pub used : u ≡ length (plans ran.events)
  pub rooms : (length q ≡ length p) × (length t ≡ length s) × (length now ≡ length was)

-- the same, as a word that search takes whole
unfoldable pub RanTo : Meaning → Board → Board → List ℕ → List ℕ → List Row → List Row → List Call → List Answer → List Answer → ℕ → ℕ → Type 0
RanTo = Reached

-- where a script has no call
abbrev pub none_call : Call
none_call = call.Tighten 0 0 0

-- The call x was made and answered by a, and plan memory, used up to the place u, is used up to v: whatever ran up to here of a
-- script whose next call is x ran on to it.
abbrev pub RunsOn : Meaning → Board → Board → List ℕ → List ℕ → List Row → List Row → Call → Answer → ℕ → ℕ → Type 0
RunsOn m b c p q s t x a u v =
    (start : Board) (plan : List ℕ) (scratch : List Row) (xs : List Call) (was now : List Answer) (n : ℕ)
    → n < length xs → slice_index_or xs n none_call ≡ x → n < length was
    → RanTo m start b plan p scratch s xs was now n u → RanTo m start c plan q scratch t xs was (slice_set now n a) (n + 1) v

-- The first n of the calls were made, as many as there are places for answers: each is answered at its place, and the places past
-- them stay.
pub record Runs (m : Meaning) (b c : Board) (p q : List ℕ) (s t : List Row) (xs : List Call) (was now : List Answer) (n : ℕ) : Type 0 where
  pub calls : n ≡ min (length xs) (length was)
  pub ran : Ran m b c p q s t (take n xs) (take n now)
  pub past : drop n now ≡ drop n was
