-- The bytes of lawful records have no fault.
use Rattle.std.proofs.Common.{◌≡◌, ℕ, ◌+◌, ◌*◌, ◌<◌, ◌≤◌, Bool, true, false, cond, ◌&&◌, eqb, ltb, leb, List, [], ◌∷◌, ◌++◌, map, length, refl, ap, ◌∙◌, arith}
use Rattle.std.specs.List.{flat_map}
use Rattle.std.proofs.lemmas.Bool.{le-leb, and_parts, ltb-true, leb-true, eqb-true}
use Rattle.bounds.specs.Scoped.{fits, distinct}
use Rattle.bounds.specs.declared.row.Row.{Row}
use Rattle.records.specs.Records.{Plate, Triple, Term, Total, plate_at, triple_at, total_at, bounds_at}
use Rattle.records.specs.Forms.{Form, between, weighted, cells_form, plates_form, triples_form, totals_form, plate_names, triple_names, term_cells, triple_limits, total_limits}
use Rattle.job.specs.Written.{Each, bytes, bounds_bytes, plate_bytes, triple_bytes, term_bytes, total_bytes, LawfulBounds, LawfulPlate, LawfulTriple, LawfulTotal}
use Rattle.job.proofs.Codecs.{bounds_back, plate_back, triple_back, total_back}
use Rattle.job.proofs.Strings.{Good}

pub goods : {A : Type 0} (s : Form) (n : ℕ) (encode : A → List ℕ) (P : A → Type 0) → ((x : A) → P x → Good s n (encode x))
    → (xs : List A) → Each P xs → Each (Good s n) (map encode xs)
goods s n encode P good [] h = tt
goods s n encode P good (x ∷ xs) h = (good x h.0, goods s n encode P good xs h.1)

small : (n : ℕ) (cs : List ℕ) → n ≤ 1024 → fits cs n ≡ true → Each (λ c. c < 65536) cs
small n [] l h = tt
small n (c ∷ cs) l h = let p = and_parts (ltb c n) (fits cs n) h in (omega (arith, ltb-true c n p.0), small n cs l p.1)

length_counts : (cs : List ℕ) → length (flat_map (bytes 2) cs) ≡ 2 * length cs
length_counts [] = refl
length_counts (c ∷ cs) = omega (arith, length_counts cs)

length_terms : (ts : List Term) → length (flat_map term_bytes ts) ≡ 6 * length ts
length_terms [] = refl
length_terms (t ∷ ts) = omega (arith, length_terms ts)

pub bounds_read : (b : Row) (pre post : List ℕ) → LawfulBounds b → bounds_at (pre ++ (bounds_bytes b ++ post)) (length pre) ≡ b
bounds_read b pre post h = bounds_back b pre post (omega (arith, h.0, h.1)) h.1

pub good_bounds : (n : ℕ) (b : Row) → LawfulBounds b → Good cells_form n (bounds_bytes b)
good_bounds n b h = record {
  some = omega arith;
  size = λ pre post. refl;
  limits = λ pre post. ap (λ (x : Row). leb x.low x.high) (bounds_read b pre post h) ∙ le-leb b.low b.high h.0;
  fit = λ pre post. refl;
  apart = λ pre post. refl;
}

pub plate_read : (n : ℕ) → n ≤ 1024 → (p : Plate) (pre post : List ℕ) → LawfulPlate n p → plate_at (pre ++ (plate_bytes p ++ post)) (length pre) ≡ p
plate_read n l p pre post h =
    let cells = small n (plate_names p) l h.1 in
    let few = leb-true _ _ (and_parts (leb 1 (length p.counts)) (leb (length p.counts) 64) h.0).1 in
    plate_back p pre post cells.0 cells.1.0 (omega (arith, few)) cells.1.1

pub good_plate : (n : ℕ) → n ≤ 1024 → (p : Plate) → LawfulPlate n p → Good plates_form n (plate_bytes p)
good_plate n l p h = record {
  some = omega arith;
  size = λ pre post. ap (λ (x : Plate). 6 + 2 * length x.counts) (plate_read n l p pre post h) ∙ omega (arith, length_counts p.counts);
  limits = λ pre post. ap (λ (x : Plate). between 1 64 (length x.counts)) (plate_read n l p pre post h) ∙ h.0;
  fit = λ pre post. ap (λ (x : Plate). fits (plate_names x) n) (plate_read n l p pre post h) ∙ h.1;
  apart = λ pre post. ap (λ (x : Plate). distinct (plate_names x)) (plate_read n l p pre post h) ∙ h.2;
}

third : (n c : ℕ) → n ≤ 1024 → (subset : Bool) → cond subset (eqb c 65535) true ≡ true → fits (cond subset [] (c ∷ [])) n ≡ true → c < 65536
third n c l true e f = omega (arith, eqb-true c 65535 e)
third n c l false e f = (small n (c ∷ []) l f).0

pub triple_read : (n : ℕ) → n ≤ 1024 → (t : Triple) (pre post : List ℕ) → LawfulTriple n t → triple_at (pre ++ (triple_bytes t ++ post)) (length pre) ≡ t
triple_read n l t pre post h =
    let lim = and_parts (between 1 4 t.kind) (cond (eqb t.kind 4) (eqb t.c 65535) true) h.0 in
    let four = leb-true _ _ (and_parts (leb 1 t.kind) (leb t.kind 4) lim.0).1 in
    let fa = and_parts (ltb t.a n) _ h.1 in
    let fb = and_parts (ltb t.b n) (fits (cond (eqb t.kind 4) [] (t.c ∷ [])) n) fa.1 in
    triple_back t pre post (omega (arith, four)) (omega (arith, ltb-true _ _ fa.0)) (omega (arith, ltb-true _ _ fb.0))
    (third n t.c l (eqb t.kind 4) lim.1 fb.1)

pub good_triple : (n : ℕ) → n ≤ 1024 → (t : Triple) → LawfulTriple n t → Good triples_form n (triple_bytes t)
good_triple n l t h = record {
  some = omega arith;
  size = λ pre post. refl;
  limits = λ pre post. ap triple_limits (triple_read n l t pre post h) ∙ h.0;
  fit = λ pre post. ap (λ (x : Triple). fits (triple_names x) n) (triple_read n l t pre post h) ∙ h.1;
  apart = λ pre post. ap (λ (x : Triple). distinct (triple_names x)) (triple_read n l t pre post h) ∙ h.2;
}

small_terms : (n : ℕ) (ts : List Term) → n ≤ 1024 → fits (term_cells ts) n ≡ true → weighted ts ≡ true → Each (λ t. (t.cell < 65536) × (t.weight < 4294967296)) ts
small_terms n [] l f w = tt
small_terms n (t ∷ ts) l f w =
    let p = and_parts (ltb t.cell n) (fits (term_cells ts) n) f in
    let q = and_parts (between 1 1000000 t.weight) (weighted ts) w in
    let light = leb-true _ _ (and_parts (leb 1 t.weight) (leb t.weight 1000000) q.0).1 in
    ((omega (arith, ltb-true _ _ p.0), omega (arith, light)), small_terms n ts l p.1 q.1)

pub total_read : (n : ℕ) → n ≤ 1024 → (t : Total) (pre post : List ℕ) → LawfulTotal n t → total_at (pre ++ (total_bytes t ++ post)) (length pre) ≡ t
total_read n l t pre post h =
    let k = length t.terms in
    let a = and_parts (between 1 64 k) (leb t.floor t.ceiling && (leb t.ceiling 10000000000000 && weighted t.terms)) h.0 in
    let b = and_parts (leb t.floor t.ceiling) (leb t.ceiling 10000000000000 && weighted t.terms) a.1 in
    let c = and_parts (leb t.ceiling 10000000000000) (weighted t.terms) b.1 in
    let few = leb-true _ _ (and_parts (leb 1 k) (leb k 64) a.0).1 in
    let low = leb-true _ _ b.0 in
    let high = leb-true _ _ c.0 in
    total_back t pre post (omega (arith, few)) (omega (arith, low, high)) (omega (arith, high)) (small_terms n t.terms l h.1 c.1)

pub good_total : (n : ℕ) → n ≤ 1024 → (t : Total) → LawfulTotal n t → Good totals_form n (total_bytes t)
good_total n l t h = record {
  some = omega arith;
  size = λ pre post. ap (λ (x : Total). 18 + 6 * length x.terms) (total_read n l t pre post h) ∙ omega (arith, length_terms t.terms);
  limits = λ pre post. ap total_limits (total_read n l t pre post h) ∙ h.0;
  fit = λ pre post. ap (λ (x : Total). fits (term_cells x.terms) n) (total_read n l t pre post h) ∙ h.1;
  apart = λ pre post. ap (λ (x : Total). distinct (term_cells x.terms)) (total_read n l t pre post h) ∙ h.2;
}
