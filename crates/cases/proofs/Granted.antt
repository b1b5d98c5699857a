-- The plates and triples of a granted file name no cell twice, and so are exact on whole boards.
use Rattle.std.proofs.Common.{◌≡◌, ℕ, zero, suc, ◌+◌, ◌-◌, ◌*◌, ◌<◌, ◌≤◌, min, true, cond, eqb, ltb, List, [], ◌∷◌, map, length, get_or, take, drop, Some, None, Option, sym, refl, ap, ◌∙◌, subst, ap₂, arith}
use Rattle.std.proofs.lemmas.Bool.{cond_both, cond-false, ne_eqb, ltb-true, ltb-false, eqb-true, not-false}
use Rattle.std.proofs.lemmas.List.{get_or-take, get_or-drop, length-take}
use Rattle.bounds.specs.Laws.{Meaning, idle}
use Rattle.bounds.specs.Beside.{beside}
use Rattle.bounds.specs.Scoped.{distinct, on_board, exact_on}
use Rattle.bounds.proofs.Lifted.{lifted_exact}
use Rattle.records.specs.Bytes.{number}
use Rattle.records.specs.Records.{Plate, Triple, numbers, plate_at, triple_at}
use Rattle.records.specs.Forms.{Form, plates_form, triples_form, plate_names, triple_names, between}
use Rattle.records.specs.Kinds.{triple_kind}
use Rattle.records.specs.declared.refused.Refused.{Refused}
use Rattle.records.specs.declared.triples.TripleKind.{TripleKind}
use Rattle.records.proofs.Fields.{length_numbers}
use Rattle.job.specs.declared.entry.Entry.{Entry}
use Rattle.job.specs.Contents.{entries, contents_fault}
use Rattle.job.specs.Reading.{Found, Reading, refused, granted, unless, body, form_of, body_records, record_fault, record_faults, rules, found, nothing, bodies, reading}
use Rattle.job.specs.Written.{Each}
use Rattle.job.proofs.Gathering.{first_none, when_none}
use Rattle.rules.specs.Numbers.{or_none}
use Rattle.plates.specs.Plates.{plate, scope_of, plate_rule, plates}
use Rattle.triples.specs.Triples.{rule_of, with_kind, triple_rule, triples}
use Rattle.linear.specs.Totals.{totals}
use Rattle.cases.specs.Granted.{IsExact, GrantedAreExact}

-- what stands in a part of the file stands there in the file
module _ (f : List ℕ) (o n : ℕ) where
  abbrev part : List ℕ
  part = take n (drop o f)

  at_part : (i : ℕ) → i < length part → get_or part i 0 ≡ get_or f (o + i) 0
  at_part i h =
      let l : i < n = omega (arith, length-take n (drop o f)) in
      get_or-take n (drop o f) i 0 l ∙ get_or-drop o f i 0

  number_part : (w i : ℕ) → i + w ≤ length part → number w part i ≡ number w f (o + i)
  number_part zero i h = refl
  number_part (suc w) i h =
      let next : o + (i + 1) ≡ o + i + 1 = omega arith in
      ap₂ (λ (x y : ℕ). x + 256 * y) (at_part i (omega arith)) (number_part w (i + 1) (omega arith) ∙ ap (number w f) next)

  numbers_part : (k i : ℕ) → i + 2 * k ≤ length part → numbers k part i ≡ numbers k f (o + i)
  numbers_part zero i h = refl
  numbers_part (suc k) i h =
      let next : o + (i + 2) ≡ o + i + 2 = omega arith in
      ap₂ (λ (x : ℕ) (xs : List ℕ). x ∷ xs) (number_part 2 i (omega arith)) (numbers_part k (i + 2) (omega arith) ∙ ap (numbers k f) next)

  field_part : (i j : ℕ) → i + j + 2 ≤ length part → number 2 part (i + j) ≡ number 2 f (o + i + j)
  field_part i j h = let e : o + (i + j) ≡ o + i + j = omega arith in number_part 2 (i + j) h ∙ ap (number 2 f) e

  plate_part : (i : ℕ) → i + (6 + 2 * length (plate_at part i).counts) ≤ length part → plate_at part i ≡ plate_at f (o + i)
  plate_part i h =
      let k = number 2 part (i + 4) in
      let l : length (numbers k part (i + 6)) ≡ k = length_numbers k part (i + 6) in
      let a = number_part 2 i (omega arith) in
      let b = field_part i 2 (omega arith) in
      let c = field_part i 4 (omega arith) in
      let e : o + (i + 6) ≡ o + i + 6 = omega arith in
      let d = numbers_part k (i + 6) (omega (arith, l)) ∙ ap (numbers k f) e in
      let e2 = ap (λ (m : ℕ). numbers m f (o + i + 6)) c in
      λ t. record { slots = a t; variety = b t; counts = (d ∙ e2) t }

  triple_part : (i : ℕ) → i + 8 ≤ length part → triple_at part i ≡ triple_at f (o + i)
  triple_part i h =
      let a = number_part 2 i (omega arith) in
      let b = field_part i 2 (omega arith) in
      let c = field_part i 4 (omega arith) in
      let d = field_part i 6 (omega arith) in
      λ t. record { kind = a t; a = b t; b = c t; c = d t }

-- a record without a fault lies in its body, and names no cell twice
abbrev Apart : Form → List ℕ → ℕ → Type 0
Apart s b i = (i + s.size b i ≤ length b) × (distinct (s.names b i) ≡ true)

apart : (s : Form) (start cells : ℕ) (b : List ℕ) (number i : ℕ) → record_fault s start cells b number i ≡ None → Apart s b i
apart s start cells b number i e =
    let x = first_none _ _ e in
    let y = first_none _ _ x.1 in
    (ltb-false (length b) (i + s.size b i) (when_none _ _ x.0), not-false _ (when_none _ _ y.1))

all_apart : (s : Form) (start cells : ℕ) (b : List ℕ) (number : ℕ) (is : List ℕ) → record_faults s start cells b number is ≡ None → Each (Apart s b) is
all_apart s start cells b number [] e = tt
all_apart s start cells b number (i ∷ is) e =
    let x = first_none (record_fault s start cells b number i) _ e in
    (apart s start cells b number i x.0, all_apart s start cells b (number + 1) is x.1)

each_map : (P Q : ℕ → Type 0) (o : ℕ) → ((i : ℕ) → P i → Q (o + i)) → (is : List ℕ) → Each P is → Each Q (map (λ i. o + i) is)
each_map P Q o g [] h = tt
each_map P Q o g (i ∷ is) h = (g i h.0, each_map P Q o g is h.1)

each_at : (P : ℕ → Type 0) (is : List ℕ) → Each P is → (r : ℕ) → r < length is → P (get_or is r 0)
each_at P [] h r l = absurd (omega arith)
each_at P (i ∷ is) h zero l = h.0
each_at P (i ∷ is) h (suc r) l = each_at P is h.1 r (omega arith)

module _ (f : List ℕ) where
  abbrev PlateApart : ℕ → Type 0
  PlateApart p = distinct (plate_names (plate_at f p)) ≡ true

  abbrev TripleApart : ℕ → Type 0
  TripleApart p = distinct (triple_names (triple_at f p)) ≡ true

  abbrev NamedApart : Found → Type 0
  NamedApart g = Each PlateApart g.plates × Each TripleApart g.triples

  -- a body of the kind k without a fault
  module _ (o n cells number : ℕ) where
    abbrev bytes : List ℕ
    bytes = take n (drop o f)

    abbrev Faultless : ℕ → Type 0
    Faultless k = record_faults (form_of k) o cells bytes number (body_records (form_of k) bytes) ≡ None

    plates_apart : (k : ℕ) → 2 ≡ k → Faultless k → Each PlateApart (map (λ i. o + i) (body_records (form_of k) bytes))
    plates_apart k e = subst (λ (j : ℕ). Faultless j → Each PlateApart (map (λ i. o + i) (body_records (form_of j) bytes))) e
        (λ d. each_map (Apart plates_form bytes) PlateApart o
        (λ i x. subst (λ (p : Plate). distinct (plate_names p) ≡ true) (plate_part f o n i x.0) x.1)
        (body_records plates_form bytes) (all_apart plates_form o cells bytes number (body_records plates_form bytes) d))

    triples_apart : (k : ℕ) → 3 ≡ k → Faultless k → Each TripleApart (map (λ i. o + i) (body_records (form_of k) bytes))
    triples_apart k e = subst (λ (j : ℕ). Faultless j → Each TripleApart (map (λ i. o + i) (body_records (form_of j) bytes))) e
        (λ d. each_map (Apart triples_form bytes) TripleApart o
        (λ i x. subst (λ (t : Triple). distinct (triple_names t) ≡ true) (triple_part f o n i x.0) x.1)
        (body_records triples_form bytes) (all_apart triples_form o cells bytes number (body_records triples_form bytes) d))

    found_apart : (k : ℕ) (g : Found) → Faultless k → NamedApart g → NamedApart (found g k (map (λ i. o + i) (body_records (form_of k) bytes)))
    found_apart k g d a = (
      cond_both (eqb k 2) _ g.plates (Each PlateApart) (λ q. plates_apart k (sym (eqb-true k 2 q)) d) (λ _. a.0),
      cond_both (eqb k 3) _ g.triples (Each TripleApart) (λ q. triples_apart k (sym (eqb-true k 3 q)) d) (λ _. a.1),
    )

  not_refused : {A : Type 0} (r : Refused) (h : Found) → ◌≡◌ {A = Reading} (refused r) (granted h) → A
  not_refused r h e = let z : ◌≡◌ {A = ℕ} 0 1 = cc in absurd (omega arith)

  same_found : (g h : Found) → ◌≡◌ {A = Reading} (granted g) (granted h) → g ≡ h
  same_found g h e = cc

  bodies_apart : (es : List Entry) (g h : Found) → NamedApart g → bodies f g es ≡ granted h → NamedApart h
  bodies_apart [] g h a q = subst NamedApart (same_found g h q) a
  bodies_apart (e ∷ es) g h a q = by _ refl (bodies_apart es (found g e.kind (map (λ i. e.offset + i) (body_records (form_of e.kind) (body f e)))) h) q
    where
      by : (x : Option Refused) → record_faults (form_of e.kind) e.offset (length g.cells) (body f e) (rules g) (body_records (form_of e.kind) (body f e)) ≡ x
          → (NamedApart (found g e.kind (map (λ i. e.offset + i) (body_records (form_of e.kind) (body f e))))
          → bodies f (found g e.kind (map (λ i. e.offset + i) (body_records (form_of e.kind) (body f e)))) es ≡ granted h → NamedApart h)
          → unless x (bodies f (found g e.kind (map (λ i. e.offset + i) (body_records (form_of e.kind) (body f e)))) es) ≡ granted h → NamedApart h
      by (Some r) d next q = not_refused r h q
      by None d next q = next (found_apart e.offset e.size (length g.cells) (rules g) e.kind g d a) q

  granted_apart : (g : Found) → reading f ≡ granted g → NamedApart g
  granted_apart g e = by (contents_fault f) e
    where
      by : (x : Option Refused) → unless x (bodies f nothing (entries f)) ≡ granted g → NamedApart g
      by (Some r) q = not_refused r g q
      by None q = bodies_apart (entries f) nothing g (tt, tt) q

  plate_exact : (p : ℕ) → PlateApart p → IsExact (on_board (plate_rule f p))
  plate_exact p d a s =
      let x = plate_at f p in
      lifted_exact (scope_of x) plate a
      (cond_both (between 1 64 (length x.counts)) (plate_names x) [] (λ (c : List ℕ). distinct c ≡ true) (λ _. d) (λ _. refl)) s

idle_exact : IsExact idle
idle_exact a s = lifted_exact [] (λ _. true) a refl s

none_exact : IsExact (on_board (exact_on [] (λ _. true)))
none_exact a s = lifted_exact [] (λ _. true) a refl s

no_kind : (k : ℕ) → 4 < k → triple_kind k ≡ None
no_kind k h =
    cond-false (eqb k 1) _ _ (ne_eqb k 1 (λ e. omega arith)) ∙ cond-false (eqb k 2) _ _ (ne_eqb k 2 (λ e. omega arith))
    ∙ cond-false (eqb k 3) _ _ (ne_eqb k 3 (λ e. omega arith)) ∙ cond-false (eqb k 4) _ _ (ne_eqb k 4 (λ e. omega arith))

kind_exact : (k a b c : ℕ) → distinct (a ∷ b ∷ cond (eqb k 4) [] (c ∷ [])) ≡ true → IsExact (on_board (or_none rule_of (with_kind (triple_kind k) a b c)))
kind_exact zero a b c d rows s = none_exact rows s
kind_exact (suc zero) a b c d rows s = lifted_exact (a ∷ b ∷ c ∷ []) _ rows d s
kind_exact (suc (suc zero)) a b c d rows s = lifted_exact (a ∷ b ∷ c ∷ []) _ rows d s
kind_exact (suc (suc (suc zero))) a b c d rows s = lifted_exact (a ∷ b ∷ c ∷ []) _ rows d s
kind_exact (suc (suc (suc (suc zero)))) a b c d rows s = lifted_exact (a ∷ b ∷ []) _ rows d s
kind_exact (suc (suc (suc (suc (suc k))))) a b c d rows s =
    subst (λ (o : Option TripleKind). IsExact (on_board (or_none rule_of (with_kind o a b c)))) (sym (no_kind (suc (suc (suc (suc (suc k))))) (omega arith))) none_exact rows s

-- the first rules of three families side by side
first_two : (a b c : Meaning) → ((r : ℕ) → IsExact (a.rule r)) → ((r : ℕ) → IsExact (b.rule r))
    → (r : ℕ) → r < a.size + b.size → IsExact ((beside a (beside b c)).rule r)
first_two a b c x y r h =
    cond_both (ltb r a.size) (a.rule r) _ IsExact (λ _. x r) (λ q.
    cond_both (ltb r 4096) _ idle IsExact (λ _.
    cond_both (ltb (r - a.size) b.size) (b.rule (r - a.size)) _ IsExact (λ _. y (r - a.size))
    (λ n. absurd (omega (arith, ltb-false r a.size q, ltb-false (r - a.size) b.size n))))
    (λ _. idle_exact))

pub granted_are_exact : GrantedAreExact
granted_are_exact f g e =
    let a = granted_apart f g e in
    let of_plates : (r : ℕ) → IsExact ((plates f g.plates).rule r) = λ r.
    cond_both (ltb r (min 4096 (length g.plates))) (on_board (plate_rule f (get_or g.plates r 0))) idle IsExact
    (λ q. plate_exact f _ (each_at (PlateApart f) g.plates a.0 r (omega (arith, ltb-true r (min 4096 (length g.plates)) q)))) (λ _. idle_exact) in
    let of_triples : (r : ℕ) → IsExact ((triples f g.triples).rule r) = λ r.
    cond_both (ltb r (min 4096 (length g.triples))) (on_board (triple_rule f (get_or g.triples r 0))) idle IsExact
    (λ q. let t = triple_at f (get_or g.triples r 0) in
    kind_exact t.kind t.a t.b t.c (each_at (TripleApart f) g.triples a.1 r (omega (arith, ltb-true r (min 4096 (length g.triples)) q)))) (λ _. idle_exact) in
    record {
      plate_rules = of_plates;
      triple_rules = of_triples;
      first_rules = first_two (plates f g.plates) (triples f g.triples) (totals f g.totals) of_plates of_triples;
    }
