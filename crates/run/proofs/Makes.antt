-- A call of a script that was made, by what the board's call ensures.
use Rattle.std.proofs.Common.{◌≡◌, ℕ, ◌+◌, ◌-◌, ◌*◌, ◌≤◌, min, Bool, true, false, ltb, leb, List, [], ◌++◌, length, take, drop, is_ok, Ok, Err, vec_items, Result, sym, refl, ap, ◌∙◌, subst, ap₂, mul-le-mul_right, arith}
use Rattle.std.proofs.lemmas.List.{append_assoc, append-nil, drop-drop, drop_min, length-drop, take-append-drop, take_min, length-take-le}
use Rattle.std.proofs.lemmas.Bool.{true≢false, ltb-true, leb-true}
use Rattle.bounds.specs.declared.row.Row.{Row}
use Rattle.bounds.specs.declared.cell.Cell.{Cell}
use Rattle.bounds.specs.Laws.{Meaning, FiveLaws}
use Rattle.board.specs.declared.board.Board.{Board}
use Rattle.board.specs.declared.board.trials.Slip.{Slip}
use Rattle.board.specs.declared.refusal.Refusal.{Refusal}
use Rattle.settling.specs.declared.settled.Settled.{Settled}
use Rattle.settling.specs.declared.settled.Settled.TheVariants as settle
use Rattle.board.specs.Calls as calls
use Rattle.board.specs.Calls.{Event, Does, opened, found, none_found}
use Rattle.board.specs.Held.{state, Frame, Outside, event_of_tighten, event_of_open, event_of_keep, event_of_drop, event_of_ask, event_of_settle}
use Rattle.board.proofs.Slots.{length_trials}
use Rattle.search.specs.Seeks.{event_of_seek, Memory}
use Rattle.run.specs.declared.call.Call.{Call}
use Rattle.run.specs.declared.call.Call.TheVariants as call
use Rattle.run.specs.declared.answer.Answer.{Answer}
use Rattle.run.specs.declared.answer.Answer.TheVariants as answer
use Rattle.run.specs.Runs.{then, call_in}
use Rattle.run.specs.Results.{of_grant, of_open, of_ask, of_settle}
use Rattle.run.specs.Scripts.{call_of, Answers, plan_of, searches, Stays, Made}
use Rattle.run.proofs.Steps.{passed}
use Rattle.run.proofs.Kept.{kept}

pub stays_same : (b : Board) → Stays b b
stays_same b = record { frame = record { cells = refl; past = refl; rows_room = refl; saved_room = refl }; past_trials = refl }

-- what lies past j rows lies past more of them
past_more : (j k : ℕ) (a b : List Row) → j ≤ k → drop j b ≡ drop j a → drop k b ≡ drop k a
past_more j k a b h e =
    subst (λ (i : ℕ). drop i b ≡ drop i a) (omega arith) (sym (drop-drop (k - j) j b) ∙ ap (drop (k - j)) e ∙ drop-drop (k - j) j a)

module _ (b c : Board) (f : Frame b c) where
  pub stays_saved : vec_items c.saved ≡ vec_items b.saved → Stays b c
  stays_saved e = record { frame = f; past_trials = ap (drop (16 * b.control.cells)) e }

  pub stays_opened : (m : Meaning) (r : Result Slip Refusal) → Does m (state b) (event_of_open r) (state c)
      → Outside b c b.control.depth → (is_ok r ≡ false → vec_items c.saved ≡ vec_items b.saved) → Stays b c
  stays_opened m (Err e) d o u = stays_saved (u refl)
  stays_opened m (Ok s) d o u =
      let n = b.control.cells in
      let k = b.control.depth in
      let l = length_trials n b.control.trials (vec_items b.saved) k in
      let g = ltb-true (length (state b).trials) 16 (passed (ltb (length (state b).trials) 16) _ 12 d.0 (omega arith)).0 in
      record {
        frame = f;
        past_trials = past_more ((k + 1) * n) (16 * n) (vec_items b.saved) (vec_items c.saved) (mul-le-mul_right n (omega arith)) o.after;
      }

-- plan memory over which nothing is written
unwritten : (u : ℕ) (p : List ℕ) → p ≡ take u p ++ [] ++ drop (u + 0) p
unwritten u p = sym (take-append-drop u p) ∙ ap₂ (λ (x : List ℕ) (i : ℕ). x ++ drop i p) (sym (append-nil (take u p))) (omega arith)

module _ (m : Meaning) (laws : FiveLaws m) (b c : Board) (u : ℕ) (p : List ℕ) (scratch : List Row) (x : Call) (a : Answer) where
  made : (q : List ℕ) (left : List Row) (e : Event) → call_in e ≡ call_of (length p - u) (length scratch) x → Answers u e a → Does m (state b) e (state c) → Stays b c
      → q ≡ take u p ++ plan_of e ++ drop (u + length (plan_of e)) p → (searches e ≡ false → left ≡ scratch) → Made m b c u p q scratch left x a
  made q left e k w d s r u = record {
    event = e;
    asks = k;
    answers = w;
    does = d;
    stays = s;
    plan = r;
    scratch = u;
    keeps = λ job ok es run. kept m laws job ok _ _ (then run e (state c) d);
  }

  is_call : (y : Call) → x ≡ y → call_of (length p - u) (length scratch) y ≡ call_of (length p - u) (length scratch) x
  is_call y e = ap (call_of (length p - u) (length scratch)) (sym e)

  pub made_tighten : (i l h : ℕ) (r : Result (Unit {0}) Refusal) → x ≡ call.Tighten i l h → a ≡ of_grant r
      → Does m (state b) (event_of_tighten i l h r) (state c) → Stays b c → Made m b c u p p scratch scratch x a
  made_tighten i l h (Ok o) ex ea d s = made p scratch (event_of_tighten i l h (Ok o)) (is_call _ ex) ea d s (unwritten u p) (λ _. refl)
  made_tighten i l h (Err e) ex ea d s = made p scratch (event_of_tighten i l h (Err e)) (is_call _ ex) (e, refl, ea) d s (unwritten u p) (λ _. refl)

  pub made_open : (r : Result Slip Refusal) → x ≡ call.Open → a ≡ of_open r
      → Does m (state b) (event_of_open r) (state c) → Stays b c → Made m b c u p p scratch scratch x a
  made_open (Ok o) ex ea d s = made p scratch (event_of_open (Ok o)) (is_call _ ex) ea d s (unwritten u p) (λ _. refl)
  made_open (Err e) ex ea d s = made p scratch (event_of_open (Err e)) (is_call _ ex) (e, refl, ea) d s (unwritten u p) (λ _. refl)

  pub made_keep : (k : ℕ) (slip : Slip) (r : Result (Unit {0}) Refusal) → x ≡ call.Keep k → slip.serial ≡ k → a ≡ of_grant r
      → Does m (state b) (event_of_keep slip r) (state c) → Stays b c → Made m b c u p p scratch scratch x a
  made_keep k slip (Ok o) ex is ea d s = made p scratch (event_of_keep slip (Ok o)) (ap calls.keep is ∙ is_call _ ex) ea d s (unwritten u p) (λ _. refl)
  made_keep k slip (Err e) ex is ea d s = made p scratch (event_of_keep slip (Err e)) (ap calls.keep is ∙ is_call _ ex) (e, refl, ea) d s (unwritten u p) (λ _. refl)

  pub made_drop : (k : ℕ) (slip : Slip) (r : Result (Unit {0}) Refusal) → x ≡ call.Drop k → slip.serial ≡ k → a ≡ of_grant r
      → Does m (state b) (event_of_drop slip r) (state c) → Stays b c → Made m b c u p p scratch scratch x a
  made_drop k slip (Ok o) ex is ea d s = made p scratch (event_of_drop slip (Ok o)) (ap calls.drop is ∙ is_call _ ex) ea d s (unwritten u p) (λ _. refl)
  made_drop k slip (Err e) ex is ea d s = made p scratch (event_of_drop slip (Err e)) (ap calls.drop is ∙ is_call _ ex) (e, refl, ea) d s (unwritten u p) (λ _. refl)

  pub made_ask : (i : ℕ) (r : Result Cell Refusal) → x ≡ call.Ask i → a ≡ of_ask i r
      → Does m (state b) (event_of_ask i r) (state c) → Stays b c → Made m b c u p p scratch scratch x a
  made_ask i (Ok o) ex ea d s = made p scratch (event_of_ask i (Ok o)) (is_call _ ex) ea d s (unwritten u p) (λ _. refl)
  made_ask i (Err e) ex ea d s = made p scratch (event_of_ask i (Err e)) (is_call _ ex) (e, refl, ea) d s (unwritten u p) (λ _. refl)

  pub made_settle : (r : Settled) → x ≡ call.Settle → a ≡ of_settle r
      → Does m (state b) (event_of_settle r) (state c) → Stays b c → Made m b c u p p scratch scratch x a
  made_settle (settle.Settled n) ex ea d s = made p scratch (event_of_settle (settle.Settled n)) (is_call _ ex) ea d s (unwritten u p) (λ _. refl)
  made_settle (settle.Void n) ex ea d s = made p scratch (event_of_settle (settle.Void n)) (is_call _ ex) ea d s (unwritten u p) (λ _. refl)

-- A seek on the board b, of n cells, with the plan memory p used up to the place u: of both parts of p at start it was lent
-- the back, which it made f, and scratch, which went from s to t.
module _ (m : Meaning) (laws : FiveLaws m) (b : Board) (u : ℕ) (p front back f : List ℕ) (s t : List Row) (start : ℕ)
    (is : start ≡ min u (length p)) (in_front : front ≡ take start p) (in_back : back ≡ drop start p)
    (lf : length f ≡ length back) (ls : length t ≡ length s) where
  abbrev n : ℕ
  n = length (state b).rows

  abbrev SoughtAs : Result Bool Refusal → Type 0
  SoughtAs r = Does m (state b) (event_of_seek n f t r) (state b) × Memory n back f s t r

  abbrev Makes : Answer → Type 0
  Makes a = Made m b b u p (front ++ f) s t call.Seek a

  front_is : front ≡ take u p
  front_is = in_front ∙ ap (λ (i : ℕ). take i p) is ∙ take_min u p

  back_is : back ≡ drop u p
  back_is = in_back ∙ ap (λ (i : ℕ). drop i p) is ∙ drop_min u p

  asked_as : calls.seek (length f) (length t) ≡ calls.seek (length p - u) (length s)
  asked_as = ap₂ calls.seek (lf ∙ ap length back_is ∙ length-drop u p) ls

  -- what stands past the plan in the part that was lent stands past it in the whole
  past_plan : (k : ℕ) → k ≡ n → drop n f ≡ drop n back → drop n f ≡ drop (u + k) p
  past_plan k e past = past ∙ ap (drop n) back_is ∙ drop-drop n u p ∙ ap (λ (i : ℕ). drop i p) (omega arith)

  same_plan : f ≡ back → front ++ f ≡ take u p ++ [] ++ drop (u + 0) p
  same_plan e = ap₂ (λ (x y : List ℕ). x ++ y) front_is (e ∙ back_is) ∙ take-append-drop u p ∙ unwritten u p

  module _ (r : Result Bool Refusal) (does : Does m (state b) (event_of_seek n f t r) (state b)) (memory : Memory n back f s t r) where
    at : (r' : Result Bool Refusal) → r ≡ r' → SoughtAs r'
    at r' e = subst SoughtAs e (does, memory)

    pub made_found : (cells : ℕ) → cells ≡ n → r ≡ Ok true → Makes (answer.Plan u (u + cells))
    made_found cells are e =
        let (d, past) = at (Ok true) e in
        let room = leb-true n (length f) (passed (leb n (length f)) _ 15 d.0 (omega arith)).0 in
        let l = length-take-le n f room in
        made m laws b b u p s call.Seek (answer.Plan u (u + cells)) (front ++ f) t (found (length f) (length t) (take n f))
        asked_as (ap (λ (k : ℕ). answer.Plan u (u + k)) (are ∙ sym l)) d (stays_same b)
        (ap₂ (λ (x y : List ℕ). x ++ y) front_is (sym (take-append-drop n f) ∙ ap (λ (z : List ℕ). take n f ++ z) (past_plan _ l past))
        ∙ sym (append_assoc (take u p) (take n f) _))
        (λ x. absurd (true≢false x))

    pub made_none : r ≡ Ok false → Makes answer.NoPlan
    made_none e =
        let (d, same) = at (Ok false) e in
        made m laws b b u p s call.Seek answer.NoPlan (front ++ f) t (none_found (length f) (length t)) asked_as refl d (stays_same b)
        (same_plan same) (λ x. absurd (true≢false x))

    pub made_refused : (why : Refusal) → r ≡ Err why → Makes (answer.Refused why)
    made_refused why e =
        let (d, same) = at (Err why) e in
        made m laws b b u p s call.Seek (answer.Refused why) (front ++ f) t (event_of_seek n f t (Err why)) asked_as (why, refl, refl) d (stays_same b)
        (same_plan same.0) (λ _. same.1)
