-- What a refusal tells of the file: the fault that its number names stands at its place.
use Rattle.std.specs.Prelude.{◌≡◌, ℕ, zero, suc, ◌+◌, ◌*◌, ◌<◌, ◌≤◌, false, ◌⊎◌, List, map, length, ◌≢◌, slice_index, slice_index_or}
use Rattle.bounds.specs.Scoped.{fits, distinct}
use Rattle.records.specs.Forms.{Form, between}
use Rattle.records.specs.Refusals.{line}
use Rattle.records.specs.declared.refused.Refused.{Refused}
use Rattle.job.specs.declared.entry.Entry.{Entry}
use Rattle.job.specs.Contents.{entry_at, contents_end}
use Rattle.job.specs.Reading.{Found, nothing, found, rules, form_of, body, body_records}

-- entry k, its form, its body and the places of the records there
abbrev pub entry : List ℕ → ℕ → Entry
entry f k = entry_at f (1 + 9 * k)

abbrev pub form_at : List ℕ → ℕ → Form
form_at f k = form_of (entry f k).kind

abbrev pub body_at : List ℕ → ℕ → List ℕ
body_at f k = body f (entry f k)

abbrev pub records_at : List ℕ → ℕ → List ℕ
records_at f k = body_records (form_at f k) (body_at f k)

-- the first kind is not 1; another is above 4 or not above the one before
abbrev pub Misnamed : List ℕ → ℕ → Type 0
Misnamed f zero = (entry f 0).kind ≡ 1 → ⊥
Misnamed f (suc k) = ((entry f (suc k)).kind ≤ (entry f k).kind) ⊎ (4 < (entry f (suc k)).kind)

-- where a body has to begin
abbrev pub due : List ℕ → ℕ → ℕ
due f zero = contents_end f
due f (suc k) = (entry f k).offset + (entry f k).size

-- it begins elsewhere, passes the file's end, or is the last and ends before it
abbrev pub Misplaced : List ℕ → ℕ → Type 0
Misplaced f k = ((entry f k).offset ≢ due f k) ⊎ ((length f < (entry f k).offset + (entry f k).size)
    ⊎ ((k + 1 ≡ slice_index f 0) × ((entry f k).offset + (entry f k).size < length f)))

-- what the first k bodies hold
abbrev pub before : List ℕ → ℕ → Found
before f zero = nothing
before f (suc k) = found (before f k) (entry f k).kind (map (λ i. (entry f k).offset + i) (records_at f k))

-- record j of body k, at its place in the body: it passes the body's end
abbrev pub Overruns : List ℕ → ℕ → ℕ → Type 0
Overruns f k j = let i = slice_index_or (records_at f k) j 0 in length (body_at f k) < i + (form_at f k).size (body_at f k) i

-- 1,024 others stand before it, its fields break a limit, or it names no cell
abbrev pub Breaks : List ℕ → ℕ → ℕ → Type 0
Breaks f k j = let i = slice_index_or (records_at f k) j 0 in (1024 ≤ rules (before f k) + j)
    ⊎ (((form_at f k).limits (body_at f k) i ≡ false) ⊎ (fits ((form_at f k).names (body_at f k) i) (length (before f k).cells) ≡ false))

-- it names one cell twice
abbrev pub Repeats : List ℕ → ℕ → ℕ → Type 0
Repeats f k j = let i = slice_index_or (records_at f k) j 0 in distinct ((form_at f k).names (body_at f k) i) ≡ false

abbrev pub at_record : List ℕ → ℕ → ℕ → ℕ → Refused
at_record f number k j = line number (form_at f k).kind ((entry f k).offset + slice_index (records_at f k) j)

pub data Told (f : List ℕ) (r : Refused) : Type 0 where
  long : 65535 < length f → r ≡ line 1 0 65535 → Told f r
  short : length f < contents_end f → r ≡ line 2 0 (length f) → Told f r
  uncounted : between 1 4 (slice_index f 0) ≡ false → r ≡ line 3 0 0 → Told f r
  misnamed : (k : ℕ) → k < slice_index f 0 → Misnamed f k → r ≡ line 3 0 (1 + 9 * k) → Told f r
  misplaced : (k : ℕ) → k < slice_index f 0 → Misplaced f k → r ≡ line 4 0 (1 + 9 * k) → Told f r
  overruns : (k j : ℕ) → k < slice_index f 0 → j < length (records_at f k) → Overruns f k j → r ≡ at_record f 5 k j → Told f r
  breaks : (k j : ℕ) → k < slice_index f 0 → j < length (records_at f k) → Breaks f k j → r ≡ at_record f 6 k j → Told f r
  repeats : (k j : ℕ) → k < slice_index f 0 → j < length (records_at f k) → Repeats f k j → r ≡ at_record f 7 k j → Told f r
