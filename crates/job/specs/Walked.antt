-- What the walk over a body answers.
use Rattle.std.specs.Prelude.{◌≡◌, ℕ, ◌+◌, ◌<◌, ◌≤◌, List, ◌++◌, map, length, take, None}
use Rattle.records.specs.Forms.{Form}
use Rattle.records.specs.Refusals.{line, of_bytes}
use Rattle.records.specs.declared.fault.ByteFault.{ByteFault}
use Rattle.job.specs.Reading.{record_fault, record_faults, body_records}

-- the record at a place of a body passes its end
abbrev pub Passes : Form → ℕ → List ℕ → ℕ → ByteFault → Type 0
Passes s start b i e = (length b < i + s.size b i) × (of_bytes e ≡ line 5 s.kind (start + i))

-- the record at a place of a body has no fault, and ends at `end`
pub record Passed (s : Form) (start cells : ℕ) (b : List ℕ) (number i end : ℕ) : Type 0 where
  pub faultless : record_fault s start cells b number i ≡ None
  pub few : number < 1024
  pub size : end ≡ i + s.size b i
  pub forward : i < end
  pub inside : end ≤ length b

-- the records of a body have no fault, and their places follow those that were in the table
pub record Walked (s : Form) (start cells : ℕ) (b : List ℕ) (first : ℕ) (before after : List ℕ) (end : ℕ) : Type 0 where
  pub faultless : record_faults s start cells b first (body_records s b) ≡ None
  pub few : end ≤ 1024
  pub counted : end ≡ first + length (body_records s b)
  pub placed : take end after ≡ take first before ++ map (λ i. start + i) (body_records s b)
