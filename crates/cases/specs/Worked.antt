-- Boards worked out by hand: the bytes of the rules' records, and the rows before and after. The counts of a plate stand in
-- the cells from 0 on, then its slots, then its variety.
use Rattle.std.specs.Prelude.{◌≡◌, ℕ, zero, suc, true, false, List, [], ◌∷◌, ◌++◌, map}
use Rattle.bounds.specs.declared.row.Row.{Row}
use Rattle.bounds.specs.Boards.{void, cells, Fills}
use Rattle.bounds.specs.Laws.{Meaning}
use Rattle.bounds.specs.Beside.{beside}
use Rattle.settling.specs.declared.settled.Settled.TheVariants.{Settled, Void}
use Rattle.settling.specs.Settles.{Settles}
use Rattle.settling.specs.Plans.{First}
use Rattle.board.specs.Calls.{State, Trial, as_read, opening, drop, Event, refused, tightened, opened, dropped, settled}
use Rattle.plates.specs.Plates.{plates}
use Rattle.plates.specs.Worked.{two_designs, three_designs, one_alone, others_out, two_of_three, too_few}
use Rattle.triples.specs.Triples.{triples}
use Rattle.linear.specs.Totals.{totals}
use Rattle.job.specs.Reading.{Found, reading, granted}
use Rattle.job.specs.Tallies.{row_at}
use Rattle.run.specs.Runs.{Leads}

abbrev pub row : ℕ → ℕ → Row
row l h = record { low = l; high = h }

-- the plate at the start of the file, alone
abbrev pub plate : List ℕ → Meaning
plate file = plates file (0 ∷ [])

-- A design that is surely there has to be the only one.
pub record OneAlone : Type 0 where
  pub narrowed : ((plate three_designs).rule 0).narrowed one_alone ≡ cells others_out
  pub settles : Settles (plate three_designs) one_alone others_out (Settled 1)

-- Any two of three designs will do, so nothing narrows; the first plan leaves count 0 out.
pub record AnyTwo : Type 0 where
  pub quiet : ((plate three_designs).rule 0).narrowed two_of_three ≡ cells two_of_three
  pub settles : Settles (plate three_designs) two_of_three two_of_three (Settled 0)
  pub plan : First (plate three_designs) (λ p. Fills p two_of_three) (0 ∷ 1 ∷ 2 ∷ 3 ∷ 2 ∷ [])

-- Two copies of one design, which has one at most.
pub record TooFew : Type 0 where
  pub narrowed : ((plate two_designs).rule 0).narrowed too_few ≡ void
  pub settles : Settles (plate two_designs) too_few too_few (Void 1)

-- the record of a triple of the cells 0, 1 and 2: its kind, 1 for a union and 3 for a union-plus, and its cells
abbrev pub triple : ℕ → Meaning
triple kind = triples (kind ∷ 0 ∷ 0 ∷ 0 ∷ 1 ∷ 0 ∷ 2 ∷ 0 ∷ []) (0 ∷ [])

abbrev pub parts_and_union : List Row
parts_and_union = row 0 5 ∷ row 0 2 ∷ row 3 9 ∷ []

abbrev pub united : List Row
united = row 3 5 ∷ row 0 2 ∷ row 3 5 ∷ []

-- The greater of the two is at least 3, which only the first can be, and at most 5.
pub record Union : Type 0 where
  pub narrowed : ((triple 1).rule 0).narrowed parts_and_union ≡ cells united
  pub settles : Settles (triple 1) parts_and_union united (Settled 1)

abbrev pub parts_and_sum : List Row
parts_and_sum = row 0 3 ∷ row 2 2 ∷ row 4 9 ∷ []

abbrev pub summed : List Row
summed = row 2 3 ∷ row 2 2 ∷ row 4 5 ∷ []

-- With 2 the first makes at least 4, and has 3 at most.
pub record UnionPlus : Type 0 where
  pub narrowed : ((triple 3).rule 0).narrowed parts_and_sum ≡ cells summed
  pub settles : Settles (triple 3) parts_and_sum summed (Settled 1)

-- the record of a total: how many cells, the floor 3, the ceiling 3, and the cells 0 and 1, both of weight 2
abbrev pub three_by_twos : Meaning
three_by_twos = totals (2 ∷ 0 ∷ 3 ∷ 0 ∷ 0 ∷ 0 ∷ 0 ∷ 0 ∷ 0 ∷ 0 ∷ 3 ∷ 0 ∷ 0 ∷ 0 ∷ 0 ∷ 0 ∷ 0 ∷ 0
    ∷ 0 ∷ 0 ∷ 2 ∷ 0 ∷ 0 ∷ 0 ∷ 1 ∷ 0 ∷ 2 ∷ 0 ∷ 0 ∷ 0 ∷ []) (0 ∷ [])

abbrev pub both : ℕ → ℕ → List Row
both l h = row l h ∷ row l h ∷ []

-- No two counts add up to 3 by twos. The bounds of the counts close in on it, and have none left at the third narrowing.
pub record ThreeByTwos : Type 0 where
  pub first : (three_by_twos.rule 0).narrowed (both 0 4) ≡ cells (both 0 1)
  pub second : (three_by_twos.rule 0).narrowed (both 0 1) ≡ cells (both 1 1)
  pub third : (three_by_twos.rule 0).narrowed (both 1 1) ≡ void
  pub settles : Settles three_by_twos (both 0 4) (both 1 1) (Void 3)

-- the plate's record, and from byte 10 on that of a subset, kind 4: count 0 is at most count 1
abbrev pub plate_then_subset : List ℕ
plate_then_subset = two_designs ++ (4 ∷ 0 ∷ 0 ∷ 0 ∷ 1 ∷ 0 ∷ 255 ∷ 255 ∷ [])

-- rule 0 is the plate and rule 1 the subset; there are no totals
abbrev pub two_rules : Meaning
two_rules = beside (plates plate_then_subset (0 ∷ [])) (beside (triples plate_then_subset (10 ∷ [])) (totals plate_then_subset []))

abbrev pub wide : List Row
wide = row 0 3 ∷ row 0 2 ∷ row 3 4 ∷ row 0 2 ∷ []

abbrev pub raised : List Row
raised = row 1 3 ∷ row 0 2 ∷ row 3 4 ∷ row 1 2 ∷ []

abbrev pub closer : List Row
closer = row 1 2 ∷ row 1 2 ∷ row 3 4 ∷ row 1 2 ∷ []

abbrev pub closest : List Row
closest = row 1 2 ∷ row 1 2 ∷ row 3 4 ∷ row 2 2 ∷ []

-- The plate raises count 0, the subset then binds both counts, and that lets the plate fix the variety.
pub record PlateAndSubset : Type 0 where
  pub first : (two_rules.rule 0).narrowed wide ≡ cells raised
  pub second : (two_rules.rule 1).narrowed raised ≡ cells closer
  pub third : (two_rules.rule 0).narrowed closer ≡ cells closest
  pub settles : Settles two_rules wide closest (Settled 3)

abbrev pub job : List Row
job = row 1 2 ∷ row 1 2 ∷ row 3 3 ∷ row 2 2 ∷ []

abbrev pub tried : List Row
tried = row 2 2 ∷ row 1 1 ∷ row 3 3 ∷ row 2 2 ∷ []

abbrev pub trial : ℕ → List Row → Trial
trial serial rows = record { serial = serial; was_void = false; was_rows = rows }

-- the events, the newest first: a trial in which count 0 is 2, so that count 1 is 1 once settled
abbrev pub to_tried : List Event
to_tried = settled 1 ∷ tightened 0 2 2 ∷ opened 1 ∷ []

-- a trial within it in which count 1 is to be 2, which it cannot
abbrev pub to_void : List Event
to_void = tightened 1 2 2 ∷ opened 2 ∷ to_tried

-- the first trial is dropped, and the second with it
abbrev pub to_refusal : List Event
to_refusal = refused (drop 2) 14 ∷ dropped 1 ∷ to_void

-- Two trials, one within the other, leave the job as it was read, but for the serials given out.
pub record TwoTrials : Type 0 where
  pub first : Leads (plate two_designs) (as_read job) to_tried
      (record { is_void = false; rows = tried; given = 1; trials = trial 1 job ∷ [] })
  pub second : Leads (plate two_designs) (as_read job) to_void
      (record { is_void = true; rows = tried; given = 2; trials = trial 2 tried ∷ trial 1 job ∷ [] })
  pub after : Leads (plate two_designs) (as_read job) to_refusal
      (record { is_void = false; rows = job; given = 2; trials = [] })

-- the job file of 45 bytes that the planner is shipped with: four cells of 0 to 2, but the third of 3, and a plate with its
-- slots there, its variety in the last and its counts in the first two
abbrev pub first_file : List ℕ
first_file = 2 ∷ (1 ∷ 19 ∷ 0 ∷ 0 ∷ 0 ∷ 16 ∷ 0 ∷ 0 ∷ 0 ∷ []) ++ (2 ∷ 35 ∷ 0 ∷ 0 ∷ 0 ∷ 10 ∷ 0 ∷ 0 ∷ 0 ∷ [])
    ++ (0 ∷ 0 ∷ 2 ∷ 0 ∷ 0 ∷ 0 ∷ 2 ∷ 0 ∷ 3 ∷ 0 ∷ 3 ∷ 0 ∷ 0 ∷ 0 ∷ 2 ∷ 0 ∷ []) ++ (2 ∷ 0 ∷ 3 ∷ 0 ∷ 2 ∷ 0 ∷ 0 ∷ 0 ∷ 1 ∷ 0 ∷ [])

abbrev pub first_found : Found
first_found = record { cells = 19 ∷ 23 ∷ 27 ∷ 31 ∷ []; plates = 35 ∷ []; triples = []; totals = [] }

abbrev pub first_rules : Meaning
first_rules = beside (plates first_file first_found.plates) (beside (triples first_file first_found.triples) (totals first_file first_found.totals))

abbrev pub first_rows : List Row
first_rows = row 0 2 ∷ row 0 2 ∷ row 3 3 ∷ row 0 2 ∷ []

-- The file is granted; one narrowing leaves a count of 1 or 2 to each design, and the first plan has 1 and 2.
pub record FirstJob : Type 0 where
  pub reads : reading first_file ≡ granted first_found
  pub rows : map (row_at first_file) first_found.cells ≡ first_rows
  pub settles : Settles first_rules first_rows job (Settled 1)
  pub plan : First first_rules (λ p. Fills p job) (1 ∷ 2 ∷ 3 ∷ 2 ∷ [])

-- n trials are opened one after the other, and leave their slips' serials and what they saved
abbrev pub openings : ℕ → List Event
openings zero = []
openings (suc n) = opened (suc n) ∷ openings n

abbrev pub opened_to : ℕ → List Trial
opened_to zero = []
opened_to (suc n) = trial (suc n) job ∷ opened_to n

abbrev pub with_open : ℕ → State
with_open n = record { is_void = false; rows = job; given = n; trials = opened_to n }

-- A sixteenth trial opens, and the next is refused.
pub record SixteenTrials : Type 0 where
  pub sixteen : Leads (plate two_designs) (as_read job) (openings 16) (with_open 16)
  pub next : Leads (plate two_designs) (as_read job) (refused opening 12 ∷ openings 16) (with_open 16)

pub record Worked : Type 0 where
  pub one_alone : OneAlone
  pub any_two : AnyTwo
  pub too_few : TooFew
  pub union : Union
  pub union_plus : UnionPlus
  pub three_by_twos : ThreeByTwos
  pub plate_and_subset : PlateAndSubset
  pub two_trials : TwoTrials
  pub first_job : FirstJob
  pub sixteen_trials : SixteenTrials
