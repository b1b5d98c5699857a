-- The reading, body by body: what is left of it decides.
use Rattle.std.proofs.Common.{◌≡◌, ℕ, zero, suc, ◌+◌, ◌-◌, ◌*◌, ◌<◌, ◌≤◌, Bool, true, false, leb, List, ◌∷◌, map, length, get_or, Some, None, Option, sym, refl, ap, ◌∙◌, subst, inl, inr, arith}
use Rattle.std.proofs.lemmas.Bool.{cases_lt, cases_eq, cond_both}
use Rattle.records.specs.Forms.{Form, cells_form}
use Rattle.records.specs.declared.refused.Refused.{Refused}
use Rattle.job.specs.declared.entry.Entry.{Entry}
use Rattle.job.specs.declared.tally.Tally.{Tally}
use Rattle.job.specs.Contents.{entry_at, entries, entries_from, misordered, misplaced, first, when, long, short, miscounted, contents_fault, contents_end}
use Rattle.job.specs.Reading.{Found, Reading, refused, granted, unless, body, form_of, body_records, record_faults, found, nothing, bodies, reading}
use Rattle.job.specs.Tallies.{spaced, held, tallied, no_tally}
use Rattle.job.specs.Walked.{Walked}
use Rattle.records.proofs.Limits.{between_in, between_out}
use Rattle.job.proofs.Listings.{never, left, left_more, kind_on, kind_off, place_on, place_off}
use Rattle.job.proofs.Gathered.{Fresh, Written, fresh_on, held_on, rules_held, length_spaced, cells_spaced}

-- an entry of lawful contents, and what is left after it
pub record Placed (f : List ℕ) (n i low high start : ℕ) (e : Entry) : Type 0 where
  pub from : low ≤ e.kind
  pub to : e.kind ≤ high
  pub inside : e.offset + e.size ≤ length f
  pub ordered : misordered (e.kind + 1) 4 (1 + 9 * (i + 1)) (left f n (i + 1)) ≡ None
  pub laid : misplaced (length f) (e.offset + e.size) (1 + 9 * (i + 1)) (left f n (i + 1)) ≡ None

placed_at : (f : List ℕ) (n i low high start : ℕ) (e : Entry) → i < n → e ≡ entry_at f (1 + 9 * i)
    → misordered low high (1 + 9 * i) (left f n i) ≡ None → misplaced (length f) start (1 + 9 * i) (left f n i) ≡ None
    → Placed f n i low high start e
placed_at f n i low high start e h d ord lay =
    let a : low ≤ e.kind = elim (cases_lt e.kind low) [ inl l ↦ never _ (kind_off f n i low high e None h d (between_out low high e.kind (inl l)) ord) | inr l ↦ l ] in
    let b : e.kind ≤ high = elim (cases_lt high e.kind) [ inl l ↦ never _ (kind_off f n i low high e None h d (between_out low high e.kind (inr l)) ord) | inr l ↦ l ] in
    let o : e.offset ≡ start = elim (cases_eq e.offset start) [ inl l ↦ l | inr l ↦ never _ (place_off f n i (length f) start e None h d (inl l) lay) ] in
    let c : e.offset + e.size ≤ length f = elim (cases_lt (length f) (e.offset + e.size)) [
      | inl l ↦ never _ (place_off f n i (length f) start e None h d (inr (inl l)) lay)
      | inr l ↦ l
    ] in
    let z : i + 1 ≡ n → e.offset + e.size ≡ length f = λ m. elim (cases_eq (e.offset + e.size) (length f)) [
      | inl l ↦ l
      | inr l ↦ never _ (place_off f n i (length f) start e None h d (inr (inr (m, l))) lay)
    ] in
    record {
      from = a;
      to = b;
      inside = c;
      ordered = kind_on f n i low high e None h d (between_in low high e.kind a b) ord;
      laid = place_on f n i (length f) start e None h d o c z lay;
    }

-- Before the entry of number i: what is left gives what all gives.
pub record Gathering (f : List ℕ) (n i : ℕ) (t : Tally) (table : List ℕ) : Type 0 where
  pub low : ℕ
  pub high : ℕ
  pub start : ℕ
  pub above : 1 ≤ low
  pub below : high ≤ 4
  pub ordered : misordered low high (1 + 9 * i) (left f n i) ≡ None
  pub laid : misplaced (length f) start (1 + 9 * i) (left f n i) ≡ None
  pub fresh : Fresh t low
  pub few : t.totals ≤ 1024
  pub room : length table ≡ 1024
  pub same : bodies f (held t table) (left f n i) ≡ bodies f nothing (entries f)

pub placed : (f : List ℕ) (n i : ℕ) (t : Tally) (table : List ℕ) (e : Entry) (g : Gathering f n i t table) → i < n → e ≡ entry_at f (1 + 9 * i)
    → Placed f n i g.low g.high g.start e
placed f n i t table e g h d = placed_at f n i g.low g.high g.start e h d g.ordered g.laid

bodies_more : (f : List ℕ) (n i : ℕ) (t : Tally) (table : List ℕ) (e : Entry) → Gathering f n i t table → i < n → e ≡ entry_at f (1 + 9 * i)
    → let s = form_of e.kind in let b = body f e in
    unless (record_faults s e.offset t.cells b t.totals (body_records s b))
    (bodies f (found (held t table) e.kind (map (λ k. e.offset + k) (body_records s b))) (left f n (i + 1)))
    ≡ bodies f nothing (entries f)
bodies_more f n i t table e g h d =
    let s = form_of e.kind in let b = body f e in
    (λ j. unless (record_faults s e.offset (sym (length_spaced t.cells t.start) j) b (sym (rules_held t g.low table g.fresh (omega (arith, g.few, g.room))) j) (body_records s b))
    (bodies f (found (held t table) e.kind (map (λ k. e.offset + k) (body_records s b))) (left f n (i + 1))))
    ∙ ap (λ (x : Entry). bodies f (held t table) (x ∷ left f n (i + 1))) d
    ∙ sym (ap (bodies f (held t table)) (left_more f n i h)) ∙ g.same

pub gathers_off : (f : List ℕ) (n i : ℕ) (t : Tally) (table : List ℕ) (e : Entry) (s : Form) (b : List ℕ) (r : Refused)
    → Gathering f n i t table → i < n → e ≡ entry_at f (1 + 9 * i) → s ≡ form_of e.kind → b ≡ body f e
    → record_faults s e.offset t.cells b t.totals (body_records s b) ≡ Some r
    → bodies f nothing (entries f) ≡ refused r
gathers_off f n i t table e s b r g h d fs fb off =
    sym (bodies_more f n i t table e g h d)
    ∙ ap (λ (x : Option Refused). unless x (bodies f (found (held t table) e.kind (map (λ k. e.offset + k) (body_records (form_of e.kind) (body f e)))) (left f n (i + 1))))
    ((λ j. record_faults (sym fs j) e.offset t.cells (sym fb j) t.totals (body_records (sym fs j) (sym fb j))) ∙ off)

form_kind : (k : ℕ) → 1 ≤ k → k ≤ 4 → (form_of k).kind ≡ k
form_kind zero h g = absurd (omega arith)
form_kind (suc zero) h g = refl
form_kind (suc (suc zero)) h g = refl
form_kind (suc (suc (suc zero))) h g = refl
form_kind (suc (suc (suc (suc zero)))) h g = refl
form_kind (suc (suc (suc (suc (suc k))))) h g = absurd (omega arith)

pub gathers_on : (f : List ℕ) (n i : ℕ) (t : Tally) (table after : List ℕ) (e : Entry) (s : Form) (b : List ℕ) (end : ℕ)
    → Gathering f n i t table → i < n → e ≡ entry_at f (1 + 9 * i) → s ≡ form_of e.kind → b ≡ body f e
    → length after ≡ 1024 → Walked s e.offset t.cells b t.totals table after end
    → Gathering f n (i + 1) (tallied t s.kind e.offset end) after
gathers_on f n i t table after e s b end g h d fs fb room w =
    let p = placed f n i t table e g h d in
    let one : 1 ≤ e.kind = omega (arith, g.above, p.from) in
    let four : e.kind ≤ 4 = omega (arith, g.below, p.to) in
    let ps = map (λ k. e.offset + k) (body_records s b) in
    let wr : Written t.totals end table after ps = record {
      forward = omega (arith, w.counted);
      inside = omega (arith, w.few, room);
      room = omega (arith, g.few, g.room);
      placed = w.placed;
    } in
    let kind : s.kind ≡ e.kind = ap (λ (x : Form). x.kind) fs ∙ form_kind e.kind one four in
    let cells : e.kind ≡ 1 → ps ≡ spaced (end - t.totals) e.offset = λ z.
    let c : s ≡ cells_form = fs ∙ ap form_of z in
    let m : (x : Form) → x ≡ cells_form → map (λ k. e.offset + k) (body_records x b) ≡ spaced (length (body_records x b)) (e.offset + 0) = λ x q.
    subst (λ (y : Form). map (λ k. e.offset + k) (body_records y b) ≡ spaced (length (body_records y b)) (e.offset + 0)) (sym q) (cells_spaced b e.offset (suc (length b)) 0) in
    m s c ∙ (λ j. spaced (a j) (o j)) in
    let adds : held (tallied t s.kind e.offset end) after ≡ found (held t table) e.kind (map (λ k. e.offset + k) (body_records (form_of e.kind) (body f e)))
    = ap (λ (k : ℕ). held (tallied t k e.offset end) after) kind
    ∙ sym (held_on t g.low e.kind e.offset end table after ps g.fresh p.from one four wr cells)
    ∙ (λ j. found (held t table) e.kind (map (λ k. e.offset + k) (body_records (fs j) (fb j)))) in
    record {
      low = e.kind + 1;
      high = 4;
      start = e.offset + e.size;
      above = omega arith;
      below = omega arith;
      ordered = p.ordered;
      laid = p.laid;
      fresh = subst (λ (k : ℕ). Fresh (tallied t k e.offset end) (e.kind + 1)) (sym kind)
          (fresh_on t g.low e.kind e.offset end g.fresh p.from one four wr.forward);
      few = cond_both (leb 2 s.kind) end t.totals (λ (x : ℕ). x ≤ 1024) (λ _. w.few) (λ _. g.few);
      room = room;
      same = ap (λ (x : Found). bodies f x (left f n (i + 1))) adds
          ∙ sym (ap (λ (x : Option Refused). unless x (bodies f (found (held t table) e.kind (map (λ k. e.offset + k) (body_records (form_of e.kind) (body f e)))) (left f n (i + 1)))) none)
          ∙ bodies_more f n i t table e g h d;
    }
  where
    a : length (body_records s b) ≡ end - t.totals
    a = omega (arith, w.counted)

    o : e.offset + 0 ≡ e.offset
    o = omega arith

    none : record_faults (form_of e.kind) e.offset t.cells (body f e) t.totals (body_records (form_of e.kind) (body f e)) ≡ None
    none = (λ j. record_faults (sym fs j) e.offset t.cells (sym fb j) t.totals (body_records (sym fs j) (sym fb j))) ∙ w.faultless

-- faultless contents, taken apart
pub first_none : (a b : Option Refused) → first a b ≡ None → (a ≡ None) × (b ≡ None)
first_none (Some r) b e = never r (sym e)
first_none None b e = (refl, e)

pub when_none : (t : Bool) (r : Refused) → when t r ≡ None → t ≡ false
when_none true r e = never r (sym e)
when_none false r e = refl

pub gathers : (f : List ℕ) (n : ℕ) (table : List ℕ) → n ≡ get_or f 0 0 → length table ≡ 1024 → contents_fault f ≡ None → Gathering f n 0 no_tally table
gathers f n table count room none =
    let a = first_none (long f) _ none in
    let b = first_none (short f) _ a.1 in
    let c = first_none (miscounted f) _ b.1 in
    let d = first_none (misordered 1 1 1 (entries f)) _ c.1 in
    record {
      low = 1;
      high = 1;
      start = contents_end f;
      above = omega arith;
      below = omega arith;
      ordered = ap (misordered 1 1 1) all ∙ d.0;
      laid = ap (misplaced (length f) (contents_end f) 1) all ∙ d.1;
      fresh = record { plates = λ _. refl; triples = λ _. refl; totals = λ _. refl; plates_first = omega arith; totals_last = omega arith };
      few = omega arith;
      room = room;
      same = ap (bodies f nothing) all;
    }
  where
    all : left f n 0 ≡ entries f
    all = ap (λ (m : ℕ). entries_from m f 1) (omega (arith, count))

pub read_bodies : (f : List ℕ) (x : Reading) → contents_fault f ≡ None → bodies f nothing (entries f) ≡ x → reading f ≡ x
read_bodies f x e d = ap (λ (o : Option Refused). unless o (bodies f nothing (entries f))) e ∙ d

pub gathered : (f : List ℕ) (n i : ℕ) (t : Tally) (table : List ℕ) → Gathering f n i t table → n ≤ i → bodies f nothing (entries f) ≡ granted (held t table)
gathered f n i t table g h = let z : n - i ≡ 0 = omega arith in
    sym g.same ∙ ap (λ (m : ℕ). bodies f (held t table) (entries_from m f (1 + 9 * i))) z
