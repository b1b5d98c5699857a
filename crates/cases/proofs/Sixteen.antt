-- Sixteen trials, one opened after the other.
use Rattle.std.proofs.Common.{◌≡◌, ℕ, zero, suc, ◌+◌, ◌<◌, ◌≤◌, ◌∷◌, length, refl, ap, ◌∙◌, arith}
use Rattle.std.proofs.lemmas.Bool.{cond-true, lt-ltb}
use Rattle.board.specs.Calls.{as_read, opening, refusal, opened, refused}
use Rattle.run.specs.Runs.{Leads, here, then}
use Rattle.plates.specs.Worked.{two_designs}
use Rattle.cases.specs.Worked.{plate, job, trial, openings, opened_to, with_open, SixteenTrials}

as_many : (n : ℕ) → length (opened_to n) ≡ n
as_many zero = refl
as_many (suc n) = let e = as_many n in omega arith

granted : (n : ℕ) → n < 16 → refusal (with_open n) opening ≡ 0
granted n h =
    cond-true _ _ _ (lt-ltb (length (opened_to n)) 16 (omega (arith, as_many n))) ∙ cond-true _ 0 13 (lt-ltb n 4294967295 (omega arith))

opening_to : (n : ℕ) → n ≤ 16 → Leads (plate two_designs) (as_read job) (openings n) (with_open n)
opening_to zero h = here
opening_to (suc n) h =
    let next : suc n ≡ n + 1 = omega arith in
    then (opening_to n (omega arith)) (opened (suc n)) (with_open (suc n)) (
      granted n (omega arith),
      next,
      ap (λ (k : ℕ). record (with_open n) { given = k; trials = trial k job ∷ opened_to n }) next,
    )

pub sixteen_trials : SixteenTrials
sixteen_trials =
    let opened = opening_to 16 (omega arith) in
    record { sixteen = opened; next = then opened (refused opening 12) (with_open 16) (refl, omega arith, refl) }
