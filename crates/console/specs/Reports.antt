-- What a report says of a job's file.
use Rattle.std.specs.Prelude.{◌≡◌, ℕ, ◌*◌, ◌<◌, ◌≤◌, ◌⊎◌, List, [], ◌∷◌, map, length, Ok, Err, vec_items, vec_len, Result}
use Rattle.bounds.specs.declared.row.Row.{Row}
use Rattle.board.specs.declared.board.Board.{Board}
use Rattle.records.specs.declared.refused.Refused.{Refused}
use Rattle.job.specs.Reading.{Found, reading, refused, granted}
use Rattle.job.specs.Tallies.{row_at}
use Rattle.boards.specs.Opening.{no_room, Opens}
use Rattle.run.specs.declared.call.Call.TheVariants.{Settle, Seek}
use Rattle.run.specs.Scripts.{Ran}
use Rattle.console.specs.declared.report.Report.{Report}
use Rattle.console.specs.declared.room.Room.{Room}
use Rattle.console.specs.Jobs.{job_meaning}

-- it is read, and the memory has room for its board
pub record Roomy (f : List ℕ) (g : Found) (room : Room) : Type 0 where
  pub read : reading f ≡ granted g
  pub rows : length g.cells ≤ vec_len room.rows
  pub trials : 16 * length g.cells ≤ vec_len room.saved

-- A settle and then a seek were made on the job's board as read, under the job's rules and in the memory that was lent; they
-- were answered as the report says, and left its board and its plan memory.
pub record Planned (f : List ℕ) (g : Found) (room : Room) (r : Report) : Type 0 where
  pub roomy : Roomy f g room
  pub opened : Board
  pub opens : Opens (map (row_at f) g.cells) room.rows room.saved (Ok opened)
  pub scratch : List Row
  pub ran : Ran (job_meaning f g) opened r.board (vec_items room.plan) (vec_items r.plan) (vec_items room.scratch) scratch (Settle ∷ Seek ∷ []) r.answers

-- it is read, and the memory has fewer rows than cells, or fewer than 16 times that for trials
abbrev pub Roomless : List ℕ → Room → Type 0
Roomless f room = (g : Found) × (reading f ≡ granted g) × ((vec_len room.rows < length g.cells) ⊎ (vec_len room.saved < 16 * length g.cells))

-- a refused file has its fault told; another is refused for want of room alone, or is planned
abbrev pub Told : List ℕ → Room → Result Report Refused → Type 0
Told f room (Ok r) = (g : Found) × Planned f g room r
Told f room (Err r) = (reading f ≡ refused r) ⊎ (Roomless f room × (r ≡ no_room f))
