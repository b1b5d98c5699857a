-- The file of given records, and what a reading of it has to find.
use Rattle.std.specs.Prelude.{◌≡◌, ℕ, zero, suc, ◌+◌, ◌*◌, ◌/◌, ◌%◌, ◌<◌, ◌≤◌, true, List, [], ◌∷◌, ◌++◌, map, length}
use Rattle.std.specs.List.{flat_map}
use Rattle.bounds.specs.Scoped.{fits, distinct}
use Rattle.bounds.specs.declared.row.Row.{Row}
use Rattle.records.specs.Records.{bounds_at, Plate, plate_at, Triple, triple_at, Term, Total, total_at}
use Rattle.records.specs.Forms.{between, plate_names, triple_names, term_cells, triple_limits, total_limits}
use Rattle.job.specs.Reading.{Found}

pub record Records : Type 0 where
  pub cells : List Row
  pub plates : List Plate
  pub triples : List Triple
  pub totals : List Total

-- a number in w bytes, lowest first
abbrev pub bytes : ℕ → ℕ → List ℕ
bytes zero n = []
bytes (suc w) n = n % 256 ∷ bytes w (n / 256)

abbrev pub bounds_bytes : Row → List ℕ
bounds_bytes b = bytes 2 b.low ++ bytes 2 b.high

abbrev pub plate_bytes : Plate → List ℕ
plate_bytes p = bytes 2 p.slots ++ (bytes 2 p.variety ++ (bytes 2 (length p.counts) ++ flat_map (bytes 2) p.counts))

abbrev pub triple_bytes : Triple → List ℕ
triple_bytes t = bytes 2 t.kind ++ (bytes 2 t.a ++ (bytes 2 t.b ++ bytes 2 t.c))

abbrev pub term_bytes : Term → List ℕ
term_bytes t = bytes 2 t.cell ++ bytes 4 t.weight

abbrev pub total_bytes : Total → List ℕ
total_bytes t = bytes 2 (length t.terms) ++ (bytes 8 t.floor ++ (bytes 8 t.ceiling ++ flat_map term_bytes t.terms))

-- a body to be: its kind, and the bytes of each of its records
pub record Section : Type 0 where
  pub kind : ℕ
  pub records : List (List ℕ)

abbrev pub content : Section → List ℕ
content s = flat_map (λ x. x) s.records

-- a kind without records gets no body
abbrev pub section : {A : Type 0} → ℕ → (A → List ℕ) → List A → List Section
section kind encode [] = []
section kind encode (x ∷ xs) = record { kind = kind; records = map encode (x ∷ xs) } ∷ []

abbrev pub sections : Records → List Section
sections r = section 1 bounds_bytes r.cells ++ (section 2 plate_bytes r.plates
    ++ (section 3 triple_bytes r.triples ++ section 4 total_bytes r.totals))

-- an entry for each body, the first of which begins at a place
abbrev pub listing : ℕ → List Section → List ℕ
listing start [] = []
listing start (s ∷ ss) = (s.kind ∷ (bytes 4 start ++ bytes 4 (length (content s)))) ++ listing (start + length (content s)) ss

abbrev pub filed : List Section → List ℕ
filed ss = length ss ∷ (listing (1 + 9 * length ss) ss ++ flat_map content ss)

abbrev pub written : Records → List ℕ
written r = filed (sections r)

abbrev pub Each : {A : Type 0} → (A → Type 0) → List A → Type 0
Each P [] = Unit {0}
Each P (x ∷ xs) = P x × Each P xs

-- Records within the limits, on so many cells.
abbrev pub LawfulBounds : Row → Type 0
LawfulBounds b = (b.low ≤ b.high) × (b.high < 65536)

abbrev pub LawfulPlate : ℕ → Plate → Type 0
LawfulPlate n p = (between 1 64 (length p.counts) ≡ true) × (fits (plate_names p) n ≡ true) × (distinct (plate_names p) ≡ true)

abbrev pub LawfulTriple : ℕ → Triple → Type 0
LawfulTriple n t = (triple_limits t ≡ true) × (fits (triple_names t) n ≡ true) × (distinct (triple_names t) ≡ true)

abbrev pub LawfulTotal : ℕ → Total → Type 0
LawfulTotal n t = (total_limits t ≡ true) × (fits (term_cells t.terms) n ≡ true) × (distinct (term_cells t.terms) ≡ true)

pub record Lawful (r : Records) : Type 0 where
  pub some_cells : 1 ≤ length r.cells
  pub few_cells : length r.cells ≤ 1024
  pub few_rules : length r.plates + (length r.triples + length r.totals) ≤ 1024
  pub short : length (written r) ≤ 65535
  pub cells : Each LawfulBounds r.cells
  pub plates : Each (LawfulPlate (length r.cells)) r.plates
  pub triples : Each (LawfulTriple (length r.cells)) r.triples
  pub totals : Each (LawfulTotal (length r.cells)) r.totals

-- the records that stand in the file at the places found
pub record Read (f : List ℕ) (g : Found) (r : Records) : Type 0 where
  pub cells : map (bounds_at f) g.cells ≡ r.cells
  pub plates : map (plate_at f) g.plates ≡ r.plates
  pub triples : map (triple_at f) g.triples ≡ r.triples
  pub totals : map (total_at f) g.totals ≡ r.totals
