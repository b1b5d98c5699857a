-- The contents of a job file: byte 0 has the number of entries; each has a kind and where its body lies.
use Rattle.std.specs.Prelude.{ℕ, zero, suc, ◌+◌, ◌*◌, Bool, cond, not, ◌&&◌, List, [], ◌∷◌, length, Some, None, Option, ◌==◌, nat_le, nat_lt, slice_index}
use Rattle.records.specs.Bytes.{number}
use Rattle.records.specs.Forms.{between}
use Rattle.records.specs.Refusals.{line}
use Rattle.records.specs.declared.refused.Refused.{Refused}
use Rattle.job.specs.declared.entry.Entry.{Entry}

-- an entry has 9 bytes
abbrev pub entry_at : List ℕ → ℕ → Entry
entry_at f i = record { kind = slice_index f i; offset = number 4 f (i + 1); size = number 4 f (i + 5) }

abbrev pub entries_from : ℕ → List ℕ → ℕ → List Entry
entries_from zero f i = []
entries_from (suc n) f i = entry_at f i ∷ entries_from n f (i + 9)

abbrev pub entries : List ℕ → List Entry
entries f = entries_from (slice_index f 0) f 1

abbrev pub when : Bool → Refused → Option Refused
when b r = cond b (Some r) None

-- the first of two faults
abbrev pub first : Option Refused → Option Refused → Option Refused
first (Some r) o = Some r
first None o = o

abbrev pub long : List ℕ → Option Refused
long f = when (nat_lt 65535 (length f)) (line 1 0 65535)

-- where the contents end
abbrev pub contents_end : List ℕ → ℕ
contents_end f = cond (between 1 4 (slice_index f 0)) (1 + 9 * slice_index f 0) 1

abbrev pub short : List ℕ → Option Refused
short f = when (nat_lt (length f) (contents_end f)) (line 2 0 (length f))

abbrev pub miscounted : List ℕ → Option Refused
miscounted f = when (not (between 1 4 (slice_index f 0))) (line 3 0 0)

-- the entry at a place and those after it have kinds that rise from `low`, the first to `high` at most, the others to 4
abbrev pub misordered : ℕ → ℕ → ℕ → List Entry → Option Refused
misordered low high place [] = None
misordered low high place (e ∷ es) =
    cond (between low high e.kind) (misordered (e.kind + 1) 4 (place + 9) es) (Some (line 3 0 place))

-- the last body ends where the file does
abbrev pub ends : List Entry → ℕ → ℕ → Bool
ends [] end all = end == all
ends (_ ∷ _) end all = nat_le end all

-- the body of the entry at a place begins at `start`, and each other where the one before it ends
abbrev pub misplaced : ℕ → ℕ → ℕ → List Entry → Option Refused
misplaced all start place [] = None
misplaced all start place (e ∷ es) =
    cond (e.offset == start && ends es (e.offset + e.size) all) (misplaced all (e.offset + e.size) (place + 9) es) (Some (line 4 0 place))

abbrev pub contents_fault : List ℕ → Option Refused
contents_fault f = first (long f) (first (short f) (first (miscounted f)
    (first (misordered 1 1 1 (entries f)) (misplaced (length f) (contents_end f) 1 (entries f)))))
