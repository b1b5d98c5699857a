-- A run of a settle and a seek on the board of a job plans the job.
use Rattle.std.proofs.Common.{◌≡◌, ℕ, inl, inr, List, [], ◌∷◌, map, length, take, Ok, Err, vec_items, ap, ◌∙◌, subst, arith}
use Rattle.std.proofs.lemmas.List.{length-map, take_all}
use Rattle.bounds.specs.declared.row.Row.{Row}
use Rattle.bounds.specs.Laws.{Meaning}
use Rattle.bounds.specs.Beside.{beside}
use Rattle.board.specs.declared.board.Board.{Board}
use Rattle.plates.specs.Plates.{plates}
use Rattle.triples.specs.Triples.{triples}
use Rattle.linear.specs.Totals.{totals}
use Rattle.job.specs.declared.job.Job.{Job}
use Rattle.job.specs.Jobs.{job_file, job_found}
use Rattle.job.specs.Reading.{reading, granted}
use Rattle.job.specs.Tallies.{row_at}
use Rattle.boards.specs.Opening.{job_rows, Opens, HasRoom}
use Rattle.run.specs.declared.call.Call.{Call}
use Rattle.run.specs.declared.call.Call.TheVariants.{Settle, Seek}
use Rattle.run.specs.declared.answer.Answer.{Answer}
use Rattle.run.specs.Scripts.{Ran, Runs}
use Rattle.console.specs.Jobs.{JobFamilies, job_meaning, JobRules}
use Rattle.console.specs.Reports.{Planned, Roomless}
use Rattle.console.specs.declared.report.Report.{Report}
use Rattle.console.specs.declared.room.Room.{Room}
use Rattle.boards.specs.declared.NoRoom.{NoRoom}

-- what the families mean
abbrev pub meant : JobFamilies → Meaning
meant r = beside (plates r.first.0.file.now r.first.0.places.now)
    (beside (triples r.second.first.0.file.now r.second.first.0.places.now) (totals r.second.second.0.file.now r.second.second.0.places.now))

-- where there are places for two answers both calls are made
pub both : (m : Meaning) (b c : Board) (p q : List ℕ) (s t : List Row) (script : List Call) (was now : List Answer) (n : ℕ)
    → script ≡ Settle ∷ Seek ∷ [] → length was ≡ 2 → length now ≡ 2 → Runs m b c p q s t script was now n → Ran m b c p q s t (Settle ∷ Seek ∷ []) now
both m b c p q s t script was now n is before after runs =
    let two : n ≡ 2 = runs.calls ∙ omega (arith, before, ap length is) in
    subst (λ (xs : List Call). Ran m b c p q s t xs now) (ap (take n) is ∙ ap (λ (i : ℕ). take i (Settle ∷ Seek ∷ [])) two)
    (subst (λ (ys : List Answer). Ran m b c p q s t (take n script) ys) (take_all n now (omega (arith, two, after))) runs.ran)

module _ (f : List ℕ) (j : Job) (on : job_file j ≡ f) (read : reading f ≡ granted (job_found j)) where
  rows_are : job_rows j ≡ map (row_at f) (job_found j).cells
  unfolding job_rows
  rows_are = ap (λ (x : List ℕ). map (row_at x) (job_found j).cells) on

  -- how many cells there are
  cells_are : length (job_rows j) ≡ length (job_found j).cells
  cells_are = ap length rows_are ∙ length-map (job_found j).cells (row_at f)

  pub lacking : (room : Room) (e : NoRoom) → HasRoom (job_rows j) room.rows room.saved (Err e) → Roomless f room
  lacking room e lacks = (job_found j, read, elim lacks [ inl h ↦ inl (omega (arith, h, cells_are)) | inr h ↦ inr (omega (arith, h, cells_are)) ])

  module _ (rules : JobFamilies) (are : JobRules (job_file j) (job_found j) rules) where
    means : meant rules ≡ job_meaning f (job_found j)
    means = λ i. beside (plates ((are.plates.file ∙ on) i) (are.plates.at i))
        (beside (triples ((are.triples.file ∙ on) i) (are.triples.at i)) (totals ((are.totals.file ∙ on) i) (are.totals.at i)))

    pub planned : (room : Room) (b : Board) (p q : List ℕ) (s t : List Row) (r : Report)
        → HasRoom (job_rows j) room.rows room.saved (Ok b) → Opens (job_rows j) room.rows room.saved (Ok b)
        → p ≡ vec_items room.plan → q ≡ vec_items r.plan → s ≡ vec_items room.scratch
        → Ran (meant rules) b r.board p q s t (Settle ∷ Seek ∷ []) r.answers → Planned f (job_found j) room r
    planned room b p q s t r has opens plan left scratch ran = record {
      roomy = record { read = read; rows = omega (arith, has.0, cells_are); trials = omega (arith, has.1, cells_are) };
      opened = b;
      opens = subst (λ (a : List Row). Opens a room.rows room.saved (Ok b)) rows_are opens;
      scratch = t;
      ran = subst (λ (m : Meaning). Ran m b r.board (vec_items room.plan) (vec_items r.plan) (vec_items room.scratch) t (Settle ∷ Seek ∷ []) r.answers) means
          (subst (λ (y : List Row). Ran (meant rules) b r.board (vec_items room.plan) (vec_items r.plan) y t (Settle ∷ Seek ∷ []) r.answers) scratch
          (subst (λ (y : List ℕ). Ran (meant rules) b r.board (vec_items room.plan) y s t (Settle ∷ Seek ∷ []) r.answers) left
          (subst (λ (y : List ℕ). Ran (meant rules) b r.board y q s t (Settle ∷ Seek ∷ []) r.answers) plan ran)));
    }
