-- The reading of a job file, from its bytes alone: refused at its first fault, or granted.
use Rattle.std.specs.Prelude.{ℕ, zero, suc, ◌+◌, cond, not, ◌&&◌, List, [], ◌∷◌, map, length, take, drop, Some, None, Option, ◌==◌, nat_lt}
use Rattle.bounds.specs.Scoped.{fits, distinct}
use Rattle.records.specs.Forms.{Form, cells_form, plates_form, triples_form, totals_form}
use Rattle.records.specs.Refusals.{line}
use Rattle.records.specs.declared.refused.Refused.{Refused}
use Rattle.job.specs.declared.entry.Entry.{Entry}
use Rattle.job.specs.Contents.{entries, when, first, contents_fault}

-- The places of the records of a body, from one on; a record stands at the start of any body.
abbrev pub records : Form → List ℕ → ℕ → ℕ → List ℕ
records s b zero i = []
records s b (suc k) i = i ∷ cond (nat_lt (i + s.size b i) (length b)) (records s b k (i + s.size b i)) []

-- The first fault of the record at a place of a body that starts at `start`, where `cells` cells are known; `number`
-- cells or rules stand before it.
abbrev pub record_fault : Form → ℕ → ℕ → List ℕ → ℕ → ℕ → Option Refused
record_fault s start cells b number i =
    first (when (nat_lt (length b) (i + s.size b i)) (line 5 s.kind (start + i)))
    (first (when (not (nat_lt number 1024 && (s.limits b i && fits (s.names b i) cells))) (line 6 s.kind (start + i)))
    (when (not (distinct (s.names b i))) (line 7 s.kind (start + i))))

abbrev pub record_faults : Form → ℕ → ℕ → List ℕ → ℕ → List ℕ → Option Refused
record_faults s start cells b number [] = None
record_faults s start cells b number (i ∷ is) =
    first (record_fault s start cells b number i) (record_faults s start cells b (number + 1) is)

-- The places, in the file, of the records of each kind.
pub record Found : Type 0 where
  pub cells : List ℕ
  pub plates : List ℕ
  pub triples : List ℕ
  pub totals : List ℕ

abbrev pub nothing : Found
nothing = record { cells = []; plates = []; triples = []; totals = [] }

abbrev pub rules : Found → ℕ
rules g = length g.plates + (length g.triples + length g.totals)

abbrev pub found : Found → ℕ → List ℕ → Found
found g kind places = record {
  cells = cond (kind == 1) places g.cells;
  plates = cond (kind == 2) places g.plates;
  triples = cond (kind == 3) places g.triples;
  totals = cond (kind == 4) places g.totals;
}

abbrev pub form_of : ℕ → Form
form_of kind = cond (kind == 1) cells_form (cond (kind == 2) plates_form (cond (kind == 3) triples_form totals_form))

abbrev pub body : List ℕ → Entry → List ℕ
body f e = take e.size (drop e.offset f)

abbrev pub body_records : Form → List ℕ → List ℕ
body_records s b = records s b (suc (length b)) 0

pub data Reading : Type 0 where
  refused : Refused → Reading
  granted : Found → Reading

abbrev pub unless : Option Refused → Reading → Reading
unless (Some r) d = refused r
unless None d = d

abbrev pub bodies : List ℕ → Found → List Entry → Reading
bodies f g [] = granted g
bodies f g (e ∷ es) =
    let s = form_of e.kind in let b = body f e in let is = body_records s b in
    unless (record_faults s e.offset (length g.cells) b (rules g) is)
    (bodies f (found g e.kind (map (λ i. e.offset + i) is)) es)

abbrev pub reading : List ℕ → Reading
reading f = unless (contents_fault f) (bodies f nothing (entries f))
