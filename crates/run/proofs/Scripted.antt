-- Calls of a script, one more at a time.
use Rattle.std.proofs.Common.{◌≡◌, ℕ, ◌+◌, ◌-◌, ◌*◌, ◌<◌, Bool, true, false, cond, List, [], ◌∷◌, ◌++◌, length, get_or, set, min, take, drop, vec_items, sym, refl, ap, ◌∙◌, subst, ap₂, arith}
use Rattle.std.proofs.lemmas.List.{drop-drop, drop-set-lt, length-append, length-set, length-take, take_all, take_more, take_more_set}
use Rattle.std.proofs.Math.Seq.{take-append_seam, drop-append-add}
use Rattle.std.proofs.lemmas.Bool.{true≢false}
use Rattle.bounds.specs.declared.row.Row.{Row}
use Rattle.bounds.specs.Laws.{Meaning, FiveLaws}
use Rattle.board.specs.declared.board.Board.{Board}
use Rattle.board.specs.Calls.{Event, refused, tightened, opened, kept, dropped, asked, settled, emptied, found, none_found}
use Rattle.board.specs.Held.{state}
use Rattle.run.specs.declared.call.Call.{Call}
use Rattle.run.specs.declared.answer.Answer.{Answer}
use Rattle.run.specs.Runs.{here, then, joined}
use Rattle.run.specs.Results.{used_by}
use Rattle.run.specs.Scripts.{call_of, Answers, plan_of, plans, searches, some_searches, Stays, Made, Logs, none, one_more, Ran, Reached, RanTo, Runs, none_call, RunsOn}
use Rattle.run.proofs.Makes.{stays_same}
use Rattle.run.proofs.Kept.{kept_throughout}

neither : (v w : Bool) → cond v true w ≡ false → (v ≡ false) × (w ≡ false)
neither true w e = absurd (true≢false e)
neither false w e = (refl, e)

stays_on : (b c d : Board) → Stays b c → Stays c d → Stays b d
stays_on b c d x y =
    let e = x.frame.cells in
    record {
      frame = record {
        cells = y.frame.cells ∙ e;
        past = subst (λ (n : ℕ). drop n (vec_items d.rows) ≡ drop n (vec_items c.rows)) e y.frame.past ∙ x.frame.past;
        rows_room = y.frame.rows_room ∙ x.frame.rows_room;
        saved_room = y.frame.saved_room ∙ x.frame.saved_room;
      };
      past_trials = subst (λ (n : ℕ). drop (16 * n) (vec_items d.saved) ≡ drop (16 * n) (vec_items c.saved)) e y.past_trials ∙ x.past_trials;
    }

-- over memory that begins with the plans k, what is written past them stands between them and the rest
written_on : (k w p : List ℕ) (q r : List ℕ) → q ≡ k ++ drop (length k) p → r ≡ take (length k) q ++ w ++ drop (length k + length w) q
    → r ≡ (k ++ w) ++ drop (length (k ++ w)) p
written_on k w p q r e h =
    let d = drop (length k) p in
    h ∙ ap (λ (z : List ℕ). take (length k) z ++ w ++ drop (length k + length w) z) e
    ∙ ap₂ (λ (y z : List ℕ). y ++ w ++ z) (take-append_seam k d)
    (drop-append-add k d (length w) ∙ drop-drop (length w) (length k) p ∙ ap (λ (i : ℕ). drop i p) (sym (length-append k w)))

-- plan memory is used up to where the answer says
used_so : (u : ℕ) (e : Event) (a : Answer) → Answers u e a → used_by u a ≡ u + length (plan_of e)
used_so u (found pr sr p) a w = ap (used_by u) w
used_so u (refused c n) a w = ap (used_by u) w.2 ∙ omega arith
used_so u (tightened c l h) a w = ap (used_by u) w ∙ omega arith
used_so u (opened k) a w = ap (used_by u) w ∙ omega arith
used_so u (kept k) a w = ap (used_by u) w ∙ omega arith
used_so u (dropped k) a w = ap (used_by u) w ∙ omega arith
used_so u (asked c l h) a w = ap (used_by u) w ∙ omega arith
used_so u (settled n) a w = ap (used_by u) w ∙ omega arith
used_so u (emptied n) a w = ap (used_by u) w ∙ omega arith
used_so u (none_found pr sr) a w = ap (used_by u) w ∙ omega arith

-- a run and one call more, for which plan memory was used up to where the plans of the run end
pub ran_more : (m : Meaning) (b : Board) (p : List ℕ) (s : List Row) (c d : Board) (u : ℕ) (q r : List ℕ) (t w : List Row)
    (xs : List Call) (answers : List Answer) (x : Call) (a : Answer)
    → length q ≡ length p → length t ≡ length s → (ran : Ran m b c p q s t xs answers) → u ≡ length (plans ran.events)
    → Made m c d u q r t w x a → Ran m b d p r s w (xs ++ x ∷ []) (answers ++ a ∷ [])
ran_more m b p s c d u q r t w xs answers x a len same ran used made =
    let k = plans ran.events in
    record {
      events = made.event ∷ ran.events;
      logs = one_more ran.logs x a made.event
          (made.asks ∙ ap₂ (λ (n j : ℕ). call_of n j x) (ap₂ ◌-◌ len used) same)
          (subst (λ (n : ℕ). Answers n made.event a) used made.answers);
      leads = then ran.leads made.event (state d) made.does;
      stays = stays_on b c d ran.stays made.stays;
      plan = written_on k (plan_of made.event) p q r ran.plan
          (subst (λ (n : ℕ). r ≡ take n q ++ plan_of made.event ++ drop (n + length (plan_of made.event)) q) used made.plan);
      scratch = λ h. let e = neither (searches made.event) (some_searches ran.events) h in made.scratch e.0 ∙ ran.scratch e.1;
      keeps = λ job ok es earlier. (ran.keeps job ok es earlier, made.keeps job ok _ (joined earlier ran.leads));
    }

module _ (m : Meaning) (b : Board) (p : List ℕ) (s : List Row) (xs : List Call) (was : List Answer) where
  pub ran_none : FiveLaws m → RanTo m b b p p s s xs was was 0 0
  unfolding RanTo
  ran_none laws = record {
    ran = record {
      events = [];
      logs = none;
      leads = here;
      stays = stays_same b;
      plan = refl;
      scratch = λ _. refl;
      keeps = λ job ok es earlier. kept_throughout m laws job ok earlier;
    };
    past = refl;
    used = refl;
    rooms = (refl, refl, refl);
  }

  module _ (c d : Board) (u : ℕ) (q r : List ℕ) (t w : List Row) (i : ℕ) (x : Call) (now : List Answer) (a : Answer)
      (so : Reached m b c p q s t xs was now i u) (made : Made m c d u q r t w (get_or xs i x) a)
      (lt : i < length xs) (place : i < length was) (left : length r ≡ length q) (rest : length w ≡ length t) where
    len : length q ≡ length p
    len = so.rooms.0

    same : length t ≡ length s
    same = so.rooms.1

    room : i < length now
    room = omega (arith, place, so.rooms.2)

    more : Ran m b d p r s w (take i xs ++ get_or xs i x ∷ []) (take i now ++ a ∷ [])
    more = ran_more m b p s c d u q r t w (take i xs) (take i now) (get_or xs i x) a len same so.ran so.used made

    logged : Logs (length p) (length s) (take (i + 1) xs) (take (i + 1) (set now i a)) more.events
    logged =
        subst (λ (ys : List Answer). Logs (length p) (length s) (take (i + 1) xs) ys more.events) (sym (take_more_set now i a room))
        (subst (λ (zs : List Call). Logs (length p) (length s) zs (take i now ++ a ∷ []) more.events) (sym (take_more xs i x lt)) more.logs)

    -- the next call of the script, whose answer is written at its place
    pub ran_next : (v : ℕ) → v ≡ used_by u a → Reached m b d p r s w xs was (set now i a) (i + 1) v
    unfolding more ran_more
    ran_next v is =
        let k = plans so.ran.events in
        record {
          ran = record {
            events = more.events;
            logs = logged;
            leads = more.leads;
            stays = more.stays;
            plan = more.plan;
            scratch = more.scratch;
            keeps = more.keeps;
          };
          past = drop-set-lt (i + 1) now i a (omega arith) ∙ sym (drop-drop 1 i now) ∙ ap (drop 1) so.past ∙ drop-drop 1 i was;
          used = is ∙ used_so u made.event a made.answers ∙ ap (λ (n : ℕ). n + length (plan_of made.event)) so.used
              ∙ sym (length-append k (plan_of made.event));
          rooms = (left ∙ len, rest ∙ same, length-set now i a ∙ so.rooms.2);
        }

-- whatever ran up to here ran on to the call
pub ran_on : (m : Meaning) (b c : Board) (u v : ℕ) (p q : List ℕ) (s t : List Row) (x : Call) (a : Answer)
    → Made m b c u p q s t x a → v ≡ used_by u a → length q ≡ length p → length t ≡ length s → RunsOn m b c p q s t x a u v
unfolding RanTo
ran_on m b c u v p q s t x a made is left rest start plan scratch xs was now i lt next place ran =
    ran_next m start plan scratch xs was b c u p q s t i none_call now a ran
    (subst (λ (y : Call). Made m b c u p q s t y a) (sym next) made) lt place left rest v is

pub taken : (n : ℕ) (xs : List Call) → length (take n xs) ≡ min n (length xs)
taken n xs = length-take n xs

pub all_ran : (m : Meaning) (b c : Board) (p q : List ℕ) (s t : List Row) (xs : List Call) (was now : List Answer) (n u : ℕ)
    → RanTo m b c p q s t (take n xs) was now n u → n ≡ min (length xs) (length was) → Runs m b c p q s t xs was now n
unfolding RanTo
all_ran m b c p q s t xs was now n u so is = record {
  calls = is;
  ran = subst (λ (ys : List Call). Ran m b c p q s t ys (take n now)) (take_all n (take n xs) (omega (arith, length-take n xs))) so.ran;
  past = so.past;
}
