-- The run of two trials, call by call.
use Rattle.std.proofs.Common.{Bool, true, false, List, [], ◌∷◌, refl, arith}
use Rattle.bounds.specs.declared.row.Row.{Row}
use Rattle.board.specs.Calls.{State, as_read, drop, refused, tightened, opened, dropped, settled, Does}
use Rattle.run.specs.Runs.{Leads, here, then}
use Rattle.cases.specs.Worked as worked
use Rattle.plates.specs.Worked.{two_designs}
use Rattle.cases.specs.Worked.{row, plate, job, trial, to_tried, to_void, to_refusal, TwoTrials}
use Rattle.cases.proofs.Lowest.{settles_once}

abbrev tight : List Row
tight = row 2 2 ∷ row 1 2 ∷ row 3 3 ∷ row 2 2 ∷ []

abbrev in_first : List Row → State
in_first rows = record { is_void = false; rows = rows; given = 1; trials = trial 1 job ∷ [] }

settles : Does (plate two_designs) (in_first tight) (settled 1) (in_first worked.tried)
settles =
    let s = settles_once (plate two_designs) tight worked.tried refl refl (omega arith) refl refl refl in
    (refl, s.0, s.1, refl)

tried : Leads (plate two_designs) (as_read job) to_tried (in_first worked.tried)
tried =
    let opening = then here (opened 1) (in_first job) (refl, refl, refl) in
    let tightening = then opening (tightened 0 2 2) (in_first tight) (refl, refl) in
    then tightening (settled 1) (in_first worked.tried) settles

abbrev in_second : Bool → State
in_second v = record { is_void = v; rows = worked.tried; given = 2; trials = trial 2 worked.tried ∷ trial 1 job ∷ [] }

voided : Leads (plate two_designs) (as_read job) to_void (in_second true)
voided =
    let opening = then tried (opened 2) (in_second false) (refl, refl, refl) in
    then opening (tightened 1 2 2) (in_second true) (refl, refl)

abbrev as_before : State
as_before = record { is_void = false; rows = job; given = 2; trials = [] }

ended : Leads (plate two_designs) (as_read job) to_refusal as_before
ended =
    let dropping = then voided (dropped 1) as_before (refl, refl) in
    then dropping (refused (drop 2) 14) as_before (refl, omega arith, refl)

pub two_trials : TwoTrials
two_trials = record { first = tried; second = voided; after = ended }
