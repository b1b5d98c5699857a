-- The cells of a granted file: there are 1 to 1,024, each with a low that is at most its high.
use Rattle.std.proofs.Common.{◌≡◌, ℕ, zero, suc, ◌+◌, ◌-◌, ◌*◌, ◌<◌, ◌≤◌, Bool, true, false, not, cond, ◌&&◌, ◌⊎◌, inl, inr, subst, ltb, leb, eqb, List, [], ◌∷◌, map, length, get_or, take, drop, Some, None, Option, sym, refl, ap, ◌∙◌, arith}
use Rattle.std.proofs.lemmas.Bool.{and_from, and_parts, not-false, ltb-true, ltb-false, leb-true, cond_both}
use Rattle.std.proofs.lemmas.List.{get_or-take, get_or-drop, length-take, length-map}
use Rattle.bounds.specs.Boards.{sound}
use Rattle.bounds.specs.Scoped.{fits}
use Rattle.bounds.specs.declared.row.Row.{Row}
use Rattle.records.specs.Bytes.{number}
use Rattle.records.specs.Records.{bounds_at}
use Rattle.records.specs.Forms.{Form, between, cells_form, plates_form, triples_form, totals_form}
use Rattle.records.specs.Refusals.{line}
use Rattle.records.specs.declared.refused.Refused.{Refused}
use Rattle.job.specs.declared.entry.Entry.{Entry}
use Rattle.job.specs.Contents.{entry_at, entries, entries_from, when, misordered, long, short, miscounted, contents_fault}
use Rattle.job.specs.Reading.{Found, Reading, granted, unless, body, form_of, record_fault, record_faults, body_records, rules, found, nothing, bodies, reading}
use Rattle.job.specs.declared.tally.Tally.{Tally}
use Rattle.job.specs.Tallies.{spaced, held, row_at}
use Rattle.job.proofs.Gathered.{length_spaced}
use Rattle.job.proofs.Gathering.{first_none, when_none}
use Rattle.job.proofs.Listings.{never}

-- a number within a part of a file
number_in : (w : ℕ) (f : List ℕ) (o n i : ℕ) → i + w ≤ length (take n (drop o f)) → number w (take n (drop o f)) i ≡ number w f (o + i)
number_in zero f o n i h = refl
number_in (suc w) f o n i h =
    let l = length-take n (drop o f) in
    let here : get_or (take n (drop o f)) i 0 ≡ get_or f (o + i) 0 = get_or-take n (drop o f) i 0 (omega (arith, l)) ∙ get_or-drop o f i 0 in
    let there : number w (take n (drop o f)) (i + 1) ≡ number w f (o + i + 1)
    = number_in w f o n (i + 1) (omega (arith, h)) ∙ ap (number w f) (omega arith) in
    λ t. here t + 256 * there t

bounds_in : (f : List ℕ) (e : Entry) (i : ℕ) → i + 4 ≤ length (body f e) → bounds_at (body f e) i ≡ bounds_at f (e.offset + i)
bounds_in f e i h =
    let low = number_in 2 f e.offset e.size i (omega (arith, h)) in
    let high : number 2 (body f e) (i + 2) ≡ number 2 f (e.offset + i + 2)
    = number_in 2 f e.offset e.size (i + 2) (omega (arith, h)) ∙ ap (number 2 f) (omega arith) in
    λ t. record { low = low t; high = high t }

-- what a faultless record keeps
kept : (s : Form) (start cells : ℕ) (b : List ℕ) (number i : ℕ) → record_fault s start cells b number i ≡ None
    → (i + s.size b i ≤ length b) × (number < 1024) × (s.limits b i ≡ true)
kept s start cells b number i h =
    let (whole, rest) = first_none (when (ltb (length b) (i + s.size b i)) (line 5 s.kind (start + i))) _ h in
    let (keeps, _) = first_none (when (not (ltb number 1024 && (s.limits b i && fits (s.names b i) cells))) (line 6 s.kind (start + i))) _ rest in
    let all = and_parts (ltb number 1024) _ (not-false _ (when_none _ _ keeps)) in (
      ltb-false _ _ (when_none _ _ whole),
      ltb-true _ _ all.0,
      (and_parts (s.limits b i) _ all.1).0,
    )

few : (s : Form) (start cells : ℕ) (b : List ℕ) (number : ℕ) (is : List ℕ) → record_faults s start cells b number is ≡ None → length is ≤ 1024 - number
few s start cells b number [] h = omega arith
few s start cells b number (i ∷ is) h =
    let (here, there) = first_none (record_fault s start cells b number i) _ h in
    let k = kept s start cells b number i here in
    omega (arith, few s start cells b (number + 1) is there)

ordered : (f : List ℕ) (e : Entry) (cells number : ℕ) (is : List ℕ) → record_faults cells_form e.offset cells (body f e) number is ≡ None
    → sound (map (bounds_at f) (map (λ i. e.offset + i) is)) ≡ true
ordered f e cells number [] h = refl
ordered f e cells number (i ∷ is) h =
    let (here, there) = first_none (record_fault cells_form e.offset cells (body f e) number i) _ h in
    let k = kept cells_form e.offset cells (body f e) number i here in
    and_from _ _ (ap (λ (r : Row). leb r.low r.high) (sym (bounds_in f e i k.0)) ∙ k.2) (ordered f e cells (number + 1) is there)

-- what is known of the cells
pub record Kept (f : List ℕ) (g : Found) : Type 0 where
  pub few : length g.cells ≤ 1024
  pub ordered : sound (map (bounds_at f) g.cells) ≡ true

one_more : (f : List ℕ) (g : Found) (e : Entry) → let s = form_of e.kind in let b = body f e in let is = body_records s b in
    record_faults s e.offset (length g.cells) b (rules g) is ≡ None → Kept f g → Kept f (found g e.kind (map (λ i. e.offset + i) is))
one_more f g e none k =
    let s = form_of e.kind in let b = body f e in let is = body_records s b in let ps = map (λ i. e.offset + i) is in
    let l : length ps ≡ length is = length-map is (λ i. e.offset + i) in
    let n = few s e.offset (length g.cells) b (rules g) is none in
    record {
      few = cond_both (eqb e.kind 1) ps g.cells (λ (cs : List ℕ). length cs ≤ 1024) (λ _. omega (arith, l, n)) (λ _. k.few);
      ordered = cond_both (eqb e.kind 1) ps g.cells (λ (cs : List ℕ). sound (map (bounds_at f) cs) ≡ true) first_kind (λ _. k.ordered);
    }
  where
    first_kind : eqb e.kind 1 ≡ true → sound (map (bounds_at f) (map (λ i. e.offset + i) (body_records (form_of e.kind) (body f e)))) ≡ true
    first_kind q =
        let one : form_of e.kind ≡ cells_form = ap (λ (t : Bool). cond t cells_form (cond (eqb e.kind 2) plates_form (cond (eqb e.kind 3) triples_form totals_form))) q in
        ordered f e (length g.cells) (rules g) (body_records (form_of e.kind) (body f e))
        (subst (λ (s : Form). record_faults s e.offset (length g.cells) (body f e) (rules g) (body_records (form_of e.kind) (body f e)) ≡ None) one none)

-- a granted rest of the bodies
unless_granted : (o : Option Refused) (d : Reading) (h : Found) → unless o d ≡ granted h → (o ≡ None) × (d ≡ granted h)
unless_granted (Some r) d h e = let z : ◌≡◌ {A = ℕ} 0 1 = cc in absurd (omega arith)
unless_granted None d h e = (refl, e)

more_cells : (k : ℕ) (g : Found) (ps : List ℕ) → 1 ≤ length ps → (k ≡ 1) ⊎ (1 ≤ length g.cells) → 1 ≤ length (found g k ps).cells
more_cells k g ps some (inl e) = subst (λ (n : ℕ). 1 ≤ length (found g n ps).cells) (sym e) some
more_cells k g ps some (inr l) = cond_both (eqb k 1) ps g.cells (λ (cs : List ℕ). 1 ≤ length cs) (λ _. some) (λ _. l)

rest : (f : List ℕ) (es : List Entry) (g h : Found) → bodies f g es ≡ granted h → Kept f g → (1 ≤ length g.cells) → (1 ≤ length h.cells) × Kept f h
rest f [] g h e k some = let same : g ≡ h = cc in subst (λ (x : Found). (1 ≤ length x.cells) × Kept f x) same (some, k)
rest f (e ∷ es) g h d k some =
    let (none, next) = unless_granted _ _ h d in
    rest f es _ h next (one_more f g e none k) (more_cells e.kind g _ (omega arith) (inr some))

ordered_first : (e : Entry) (es : List Entry) → misordered 1 1 1 (e ∷ es) ≡ None → e.kind ≡ 1
ordered_first e es h = by (between 1 1 e.kind) refl h
  where
    by : (t : Bool) → between 1 1 e.kind ≡ t → cond t (misordered (e.kind + 1) 4 10 es) (Some (line 3 0 1)) ≡ None → e.kind ≡ 1
    by false q d = never _ (sym d)
    by true q d = let p = and_parts (leb 1 e.kind) _ q in omega (arith, leb-true _ _ p.0, leb-true _ _ p.1)

counted : (f : List ℕ) (n : ℕ) (h : Found) → 1 ≤ n → misordered 1 1 1 (entries_from n f 1) ≡ None → bodies f nothing (entries_from n f 1) ≡ granted h
    → (1 ≤ length h.cells) × Kept f h
counted f zero h l ord d = absurd (omega arith)
counted f (suc n) h l ord d =
    let e = entry_at f 1 in
    let (none, next) = unless_granted _ _ h d in
    rest f (entries_from n f 10) _ h next (one_more f nothing e none (record { few = omega arith; ordered = refl }))
    (more_cells e.kind nothing (map (λ i. e.offset + i) (body_records (form_of e.kind) (body f e))) (omega arith) (inl (ordered_first e _ ord)))

granted_cells : (f : List ℕ) (g : Found) → reading f ≡ granted g → (1 ≤ length g.cells) × Kept f g
granted_cells f g e =
    let (none, d) = unless_granted (contents_fault f) _ g e in
    let a = first_none (long f) _ none in
    let b = first_none (short f) _ a.1 in
    let c = first_none (miscounted f) _ b.1 in
    let ord = first_none (misordered 1 1 1 (entries f)) _ c.1 in
    let n = and_parts (leb 1 (get_or f 0 0)) _ (not-false _ (when_none _ _ c.0)) in
    counted f (get_or f 0 0) g (leb-true _ _ n.0) ord.0 d

-- as a job holds them
pub job_cells : (f : List ℕ) (t : Tally) (table : List ℕ) → reading f ≡ granted (held t table)
    → (1 ≤ t.cells) × (t.cells ≤ 1024) × (sound (map (row_at f) (spaced t.cells t.start)) ≡ true)
job_cells f t table e =
    let (some, k) = granted_cells f (held t table) e in
    let l = length_spaced t.cells t.start in
    (omega (arith, some, l), omega (arith, k.few, l), k.ordered)
