-- The walk over the records of a body: what is left of it decides.
use Rattle.std.proofs.Common.{◌≡◌, ℕ, zero, suc, ◌+◌, ◌<◌, ◌≤◌, Bool, cond, ltb, List, [], ◌∷◌, ◌++◌, map, length, take, set, Some, None, Option, sym, refl, ap, ◌∙◌, append_assoc, arith}
use Rattle.std.proofs.lemmas.List.{take_more_set, append-nil, length-set}
use Rattle.std.proofs.lemmas.Bool.{lt-ltb, le-ltb}
use Rattle.records.specs.Forms.{Form}
use Rattle.records.specs.declared.refused.Refused.{Refused}
use Rattle.job.specs.Contents.{first}
use Rattle.job.specs.Reading.{records, record_fault, record_faults, body_records}
use Rattle.job.specs.Walked.{Passed, Walked}

-- Before the record at `at`, which has the number `number`: what is left gives what all gives.
pub record Walking (s : Form) (start cells : ℕ) (b : List ℕ) (begin : ℕ) (before now : List ℕ) (number at : ℕ) : Type 0 where
  pub fuel : ℕ
  pub enough : length b < at + fuel
  pub inside : at ≤ length b
  pub few : number ≤ 1024
  pub table : length now ≡ 1024
  pub faults : record_faults s start cells b number (records s b fuel at) ≡ record_faults s start cells b begin (body_records s b)
  pub counted : number + length (records s b fuel at) ≡ begin + length (body_records s b)
  pub placed : take number now ++ map (λ i. start + i) (records s b fuel at) ≡ take begin before ++ map (λ i. start + i) (body_records s b)

pub starts : (s : Form) (start cells : ℕ) (b : List ℕ) (begin : ℕ) (before : List ℕ) → begin ≤ 1024 → length before ≡ 1024
    → Walking s start cells b begin before before begin 0
starts s start cells b begin before h e = record {
  fuel = suc (length b);
  enough = omega arith;
  inside = omega arith;
  few = h;
  table = e;
  faults = refl;
  counted = refl;
  placed = refl;
}

-- a record stands there, with some rest
pub unrolled : (s : Form) (b : List ℕ) (fuel at : ℕ) → length b < at + fuel → at ≤ length b
    → (k : ℕ) × (length b < at + (k + 1)) × (records s b fuel at ≡ at ∷ cond (ltb (at + s.size b at) (length b)) (records s b k (at + s.size b at)) [])
unrolled s b zero at h g = absurd (omega arith)
unrolled s b (suc k) at h g = (k, omega arith, refl)

pub refuses : (s : Form) (start cells : ℕ) (b : List ℕ) (begin : ℕ) (before now : List ℕ) (number at : ℕ) (r : Refused)
    → Walking s start cells b begin before now number at → record_fault s start cells b number at ≡ Some r
    → record_faults s start cells b begin (body_records s b) ≡ Some r
refuses s start cells b begin before now number at r w e =
    let u = unrolled s b w.fuel at w.enough w.inside in
    let rest = cond (ltb (at + s.size b at) (length b)) (records s b u.0 (at + s.size b at)) [] in
    sym w.faults ∙ ap (λ (is : List ℕ). record_faults s start cells b number is) u.2
    ∙ ap (λ (o : Option Refused). first o (record_faults s start cells b (number + 1) rest)) e

-- one record on, with what is left after it
pub record Stepped (s : Form) (start cells : ℕ) (b : List ℕ) (begin : ℕ) (before now : List ℕ) (number : ℕ) (rest : List ℕ) : Type 0 where
  pub faults : record_faults s start cells b number rest ≡ record_faults s start cells b begin (body_records s b)
  pub counted : number + length rest ≡ begin + length (body_records s b)
  pub placed : take number now ++ map (λ i. start + i) rest ≡ take begin before ++ map (λ i. start + i) (body_records s b)

stepped : (s : Form) (start cells : ℕ) (b : List ℕ) (begin : ℕ) (before now : List ℕ) (number at : ℕ) (rest : List ℕ)
    → (w : Walking s start cells b begin before now number at) → record_fault s start cells b number at ≡ None → number < 1024
    → records s b w.fuel at ≡ at ∷ rest
    → Stepped s start cells b begin before (set now number (start + at)) (number + 1) rest
stepped s start cells b begin before now number at rest w none few e =
    let lt : number < length now = omega (arith, w.table) in
    record {
      faults = sym (ap (λ (o : Option Refused). first o (record_faults s start cells b (number + 1) rest)) none)
          ∙ sym (ap (λ (is : List ℕ). record_faults s start cells b number is) e) ∙ w.faults;
      counted = omega (arith, w.counted, ap length e);
      placed = ap (λ (ps : List ℕ). ps ++ map (λ i. start + i) rest) (take_more_set now number (start + at) lt)
          ∙ append_assoc (take number now) ((start + at) ∷ []) (map (λ i. start + i) rest)
          ∙ sym (ap (λ (is : List ℕ). take number now ++ map (λ i. start + i) is) e) ∙ w.placed;
    }

pub moves : (s : Form) (start cells : ℕ) (b : List ℕ) (begin : ℕ) (before now : List ℕ) (number at end : ℕ)
    → Walking s start cells b begin before now number at → Passed s start cells b number at end → end < length b
    → Walking s start cells b begin before (set now number (start + at)) (number + 1) end
moves s start cells b begin before now number at end w p h =
    let u = unrolled s b w.fuel at w.enough w.inside in
    let lt : at + s.size b at < length b = omega (arith, p.size) in
    let e : records s b w.fuel at ≡ at ∷ records s b u.0 end
    = u.2 ∙ ap (λ (t : Bool). at ∷ cond t (records s b u.0 (at + s.size b at)) []) (lt-ltb _ _ lt)
    ∙ ap (λ (n : ℕ). at ∷ records s b u.0 n) (sym p.size) in
    let t = stepped s start cells b begin before now number at (records s b u.0 end) w p.faultless p.few e in
    record {
      fuel = u.0;
      enough = omega (arith, u.1, p.forward);
      inside = omega arith;
      few = omega (arith, p.few);
      table = length-set now number (start + at) ∙ w.table;
      faults = t.faults;
      counted = t.counted;
      placed = t.placed;
    }

pub stops : (s : Form) (start cells : ℕ) (b : List ℕ) (begin : ℕ) (before now : List ℕ) (number at end : ℕ)
    → Walking s start cells b begin before now number at → Passed s start cells b number at end → length b ≤ end
    → Walked s start cells b begin before (set now number (start + at)) (number + 1)
stops s start cells b begin before now number at end w p h =
    let u = unrolled s b w.fuel at w.enough w.inside in
    let ge : length b ≤ at + s.size b at = omega (arith, p.size) in
    let e : records s b w.fuel at ≡ at ∷ []
    = u.2 ∙ ap (λ (t : Bool). at ∷ cond t (records s b u.0 (at + s.size b at)) []) (le-ltb _ _ ge) in
    let t = stepped s start cells b begin before now number at [] w p.faultless p.few e in
    record {
      faultless = sym t.faults;
      few = omega (arith, p.few);
      counted = omega (arith, t.counted);
      placed = sym (append-nil (take (number + 1) (set now number (start + at)))) ∙ t.placed;
    }
