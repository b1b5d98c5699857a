-- The board of a job as read, and the memory that it stands in.
use Rattle.std.specs.Prelude.{◌≡◌, ℕ, ◌*◌, ◌<◌, ◌≤◌, ◌⊎◌, List, map, length, drop, Some, None, Ok, Err, vec_items, vec_len, Result, Vec}
use Rattle.std.specs.declared.alloc.Global.{Global}
use Rattle.bounds.specs.declared.row.Row.{Row}
use Rattle.board.specs.declared.board.Board.{Board}
use Rattle.board.specs.declared.unfit.Unfit.TheVariants.{Room}
use Rattle.board.specs.Calls.{as_read}
use Rattle.board.specs.Held.{state}
use Rattle.board.specs.Makes.{unfit}
use Rattle.records.specs.declared.refused.Refused.{Refused}
use Rattle.records.specs.Refusals.{line}
use Rattle.job.specs.declared.job.Job.{Job}
use Rattle.job.specs.Jobs.{job_file, job_found}
use Rattle.job.specs.Tallies.{row_at}
use Rattle.boards.specs.declared.NoRoom.{NoRoom}

-- the bounds of the job's cells
unfoldable pub job_rows : Job → List Row
job_rows j = map (row_at (job_file j)) (job_found j).cells

-- line 8, at the file's length
abbrev pub no_room : List ℕ → Refused
no_room f = line 8 0 (length f)

-- granted: the job's rows stand at the front of the board memory, and the rest of both memories is as it was;
-- refused: there is too little memory, and both come back as they were
abbrev pub Opens : List Row → Vec Row Global → Vec Row Global → Result Board NoRoom → Type 0
Opens job rows saved (Ok b) =
    (unfit (length job) job (vec_len rows) (vec_len saved) ≡ None) × (state b ≡ as_read job)
    × (drop (length job) (vec_items b.rows) ≡ drop (length job) (vec_items rows)) × (vec_len b.rows ≡ vec_len rows) × (b.saved ≡ saved)
Opens job rows saved (Err e) = (unfit (length job) job (vec_len rows) (vec_len saved) ≡ Some Room) × (e.rows ≡ rows) × (e.saved ≡ saved)

-- refused only where the memory holds fewer rows than the job has cells, or fewer than 16 times that for its trials
abbrev pub HasRoom : List Row → Vec Row Global → Vec Row Global → Result Board NoRoom → Type 0
HasRoom job rows saved (Ok b) = (length job ≤ vec_len rows) × (16 * length job ≤ vec_len saved)
HasRoom job rows saved (Err e) = (vec_len rows < length job) ⊎ (vec_len saved < 16 * length job)
