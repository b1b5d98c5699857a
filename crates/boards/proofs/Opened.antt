-- The board that is made of the memory into which a job's rows were written.
use Rattle.std.proofs.Common.{◌≡◌, ℕ, suc, ◌+◌, ◌<◌, ◌≤◌, Bool, true, false, cond, ◌&&◌, leb, ◌⊎◌, inl, inr, ◌*◌, List, [], ◌∷◌, get_or, Option, MatchOption, refl, ap₂, length, take, drop, Some, None, Ok, Err, vec_items, vec_len, Result, Vec, sym, ap, ◌∙◌, arith}
use Rattle.std.specs.Vec.{with_items}
use Rattle.std.specs.declared.alloc.Global.{Global}
use Rattle.std.proofs.lemmas.List.{with_items_is, length-map, take_more, take_more_set, length-take-le}
use Rattle.job.proofs.Gathered.{length_spaced}
use Rattle.std.proofs.lemmas.Grind.{common_steps}
use Rattle.bounds.specs.Boards.{sound}
use Rattle.bounds.specs.declared.row.Row.{Row}
use Rattle.board.specs.declared.board.Board.{Board}
use Rattle.board.specs.declared.unfit.Refused.{Refused}
use Rattle.board.specs.Calls.{as_read}
use Rattle.board.specs.declared.unfit.Unfit.{Unfit}
use Rattle.board.specs.declared.unfit.Unfit.TheVariants.{Size, Room}
use Rattle.std.proofs.lemmas.Bool.{cond-true, cond-false, and_from, and_parts, and_left, and_right, le-leb, lt-leb, leb-true}
use Rattle.board.specs.Makes.{unfit, roomless, Makes}
use Rattle.job.specs.declared.job.Job.{Job}
use Rattle.job.specs.Jobs.{job_file, job_found}
use Rattle.job.specs.Tallies.{row_at}
use Rattle.boards.specs.Opening.{job_rows, Opens}

pub rows_counted : (j : Job) → length (job_rows j) ≡ length (job_found j).cells
unfolding job_rows
rows_counted j = length-map (job_found j).cells (row_at (job_file j))

-- what writing the rows is proved by
pub ruleset filling = (common_steps, rows_counted, take_more, take_more_set, length-take-le)

pub sound_rows : (j : Job) → sound (job_rows j) ≡ true
unfolding job_rows
sound_rows j = j.sound_cells

some_few : (j : Job) → (leb 1 (length (job_rows j)) && leb (length (job_rows j)) 1024) ≡ true
some_few j =
    let n = length (job_rows j) in
    let l : n ≡ j.tally.cells = rows_counted j ∙ length_spaced j.tally.cells j.tally.start in
    and_from (leb 1 n) (leb n 1024) (le-leb 1 n (omega (arith, l, j.some_cells))) (le-leb n 1024 (omega (arith, l, j.few_cells)))

none_some : {A : Type 0} (why : Unfit) → ◌≡◌ {A = Option Unfit} None (Some why) → A
none_some why e = let z : ◌≡◌ {A = ℕ} 0 1 = cc in absurd (omega arith)

-- the sizes leave room only where the memory is enough
enough : (size room : Bool) → cond size (cond room None (Some Room)) (Some Size) ≡ None → room ≡ true
enough true true e = refl
enough true false e = none_some _ (sym e)
enough false room e = none_some _ (sym e)

pub roomless_job : (j : Job) (room trial_room : ℕ) → (room < length (job_rows j)) ⊎ (trial_room < 16 * length (job_rows j))
    → unfit (length (job_rows j)) (job_rows j) room trial_room ≡ Some Room
roomless_job j room trial_room h =
    let n = length (job_rows j) in
    cond-true _ _ _ (some_few j) ∙ cond-false _ _ _ (elim h [
      | inl l ↦ and_left (leb n room) (leb (16 * n) trial_room) (lt-leb n room l)
      | inr l ↦ and_right (leb n room) (leb (16 * n) trial_room) (lt-leb (16 * n) trial_room l)
    ])

ample : (n room trial_room : ℕ) → n ≤ room → 16 * n ≤ trial_room → (leb n room && leb (16 * n) trial_room) ≡ true
ample n room trial_room h g = and_from (leb n room) (leb (16 * n) trial_room) (le-leb n room h) (le-leb (16 * n) trial_room g)

pub fitting : (j : Job) (room trial_room : ℕ) → length (job_rows j) ≤ room → 16 * length (job_rows j) ≤ trial_room
    → roomless (length (job_rows j)) room trial_room ≡ None
fitting j room trial_room h g = cond-true _ _ _ (some_few j) ∙ cond-true _ _ _ (ample _ _ _ h g)

pub roomy : (j : Job) (room trial_room : ℕ) → roomless (length (job_rows j)) room trial_room ≡ None → (length (job_rows j) ≤ room) × (16 * length (job_rows j) ≤ trial_room)
roomy j room trial_room none =
    let n = length (job_rows j) in
    let all = and_parts (leb n room) (leb (16 * n) trial_room) (enough _ _ none) in
    (leb-true _ _ all.0, leb-true _ _ all.1)

pub fits_job : (j : Job) (room trial_room : ℕ) → length (job_rows j) ≤ room → 16 * length (job_rows j) ≤ trial_room
    → unfit (length (job_rows j)) (job_rows j) room trial_room ≡ None
fits_job j room trial_room h g = cond-true _ _ _ (some_few j) ∙ cond-true _ _ _ (ample _ _ _ h g) ∙ cond-true _ _ _ (sound_rows j)

-- the board over memory into whose front the job's rows were written
module _ (job : List Row) (rows saved : Vec Row Global) (ws : List Row) (n : ℕ) (long : length ws ≡ vec_len rows)
    (all : n ≡ length job) (front : take (length job) ws ≡ job) (past : drop (length job) ws ≡ drop (length job) (vec_items rows))
    (fit : unfit (length job) job (vec_len rows) (vec_len saved) ≡ None) where
  held : vec_items (with_items rows ws) ≡ ws
  held = with_items_is rows ws long

  first : take n (vec_items (with_items rows ws)) ≡ job
  first = ap (take n) held ∙ ap (λ m. take m ws) all ∙ front

  fits : unfit n (take n (vec_items (with_items rows ws))) (vec_len rows) (vec_len saved) ≡ None
  fits = ap (λ m. unfit m (take n (vec_items (with_items rows ws))) (vec_len rows) (vec_len saved)) all
      ∙ ap (λ a. unfit (length job) a (vec_len rows) (vec_len saved)) first ∙ fit

  pub opened : (b : Board) → Makes (with_items rows ws) saved n (Ok b) → Opens job rows saved (Ok b)
  opened b (_, is, trials, now) = (
    fit,
    now ∙ ap as_read first,
    ap (λ (v : Vec Row Global). drop (length job) (vec_items v)) is ∙ ap (drop (length job)) held ∙ past,
    ap (λ (v : Vec Row Global). vec_len v) is,
    trials,
  )

  pub never_unfit : (e : Refused) → Makes (with_items rows ws) saved n (Err e) → ⊥
  never_unfit e (unfits, _, _) = none_some e.why (sym fits ∙ unfits)
