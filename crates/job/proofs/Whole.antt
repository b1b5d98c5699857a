-- The file of lawful records is granted, and reads as those records.
use Rattle.std.proofs.Common.{◌≡◌, ℕ, ◌+◌, ◌*◌, ◌≤◌, List, [], ◌∷◌, ◌++◌, map, length, None, sym, refl, ap, ◌∙◌, subst, arith}
use Rattle.std.proofs.lemmas.List.{length-append, length-map}
use Rattle.bounds.specs.declared.row.Row.{Row}
use Rattle.records.specs.Records.{Plate, Triple, Total, plate_at, triple_at, total_at, bounds_at}
use Rattle.records.specs.Forms.{cells_form, plates_form, triples_form, totals_form}
use Rattle.records.specs.declared.refused.Refused.{Refused}
use Rattle.job.specs.Contents.{misordered}
use Rattle.job.specs.Reading.{Found, Reading, granted, refused, rules, found, nothing, reading}
use Rattle.job.specs.Written.{Records, section, sections, written, Each, Lawful, Read, bounds_bytes, plate_bytes, triple_bytes, total_bytes, LawfulBounds, LawfulPlate, LawfulTriple, LawfulTotal}
use Rattle.job.proofs.Strings.{Good, offsets, all, length_offsets}
use Rattle.job.proofs.Files.{listed}
use Rattle.job.proofs.Granting.{placed, Fine, Spots, filed_granted, filed_spots, reads}
use Rattle.job.proofs.Goods.{goods, bounds_read, good_bounds, plate_read, good_plate, triple_read, good_triple, total_read, good_total}

ordered : (c : Row) (cs : List Row) (ps : List Plate) (ts : List Triple) (us : List Total) (start : ℕ)
    → misordered 1 1 1 (listed start (sections (record { cells = c ∷ cs; plates = ps; triples = ts; totals = us }))) ≡ None
ordered c cs [] [] [] start = refl
ordered c cs [] [] (_ ∷ _) start = refl
ordered c cs [] (_ ∷ _) [] start = refl
ordered c cs [] (_ ∷ _) (_ ∷ _) start = refl
ordered c cs (_ ∷ _) [] [] start = refl
ordered c cs (_ ∷ _) [] (_ ∷ _) start = refl
ordered c cs (_ ∷ _) (_ ∷ _) [] start = refl
ordered c cs (_ ∷ _) (_ ∷ _) (_ ∷ _) start = refl

one_section : {A : Type 0} (k : ℕ) (encode : A → List ℕ) (xs : List A) → length (section k encode xs) ≤ 1
one_section k encode [] = omega arith
one_section k encode (x ∷ xs) = omega arith

count : {A : Type 0} (start : ℕ) (encode : A → List ℕ) (xs : List A) → length (map (λ i. start + i) (offsets 0 (map encode xs))) ≡ length xs
count start encode xs = length-map (offsets 0 (map encode xs)) (λ i. start + i) ∙ length_offsets 0 (map encode xs) ∙ length-map xs encode

-- no section has a fault
fine_totals : (n : ℕ) → n ≤ 1024 → (us : List Total) (g : Found) (start : ℕ) → length g.cells ≡ n → rules g + length us ≤ 1024
    → Each (LawfulTotal n) us → Fine g start (section 4 total_bytes us)
fine_totals n l [] g start c h law = tt
fine_totals n l (u ∷ us) g start c h law = (
  omega arith,
  subst (λ (k : ℕ). Each (Good totals_form k) (map total_bytes (u ∷ us))) (sym c) (goods totals_form n total_bytes (LawfulTotal n) (good_total n l) (u ∷ us) law),
  omega (arith, length-map us total_bytes),
  tt,
)

fine_triples : (n : ℕ) → n ≤ 1024 → (ts : List Triple) (us : List Total) (g : Found) (start : ℕ) → length g.cells ≡ n
    → length g.triples ≡ 0 → rules g + (length ts + length us) ≤ 1024 → Each (LawfulTriple n) ts → Each (LawfulTotal n) us
    → Fine g start (section 3 triple_bytes ts ++ section 4 total_bytes us)
fine_triples n l [] us g start c z h lt lu = fine_totals n l us g start c (omega arith) lu
fine_triples n l (t ∷ ts) us g start c z h lt lu = (
  omega arith,
  subst (λ (k : ℕ). Each (Good triples_form k) (map triple_bytes (t ∷ ts))) (sym c) (goods triples_form n triple_bytes (LawfulTriple n) (good_triple n l) (t ∷ ts) lt),
  omega (arith, length-map ts triple_bytes),
  fine_totals n l us (found g 3 (map (λ i. start + i) (offsets 0 (map triple_bytes (t ∷ ts))))) _ c (omega (arith, count start triple_bytes (t ∷ ts))) lu,
)

fine_plates : (n : ℕ) → n ≤ 1024 → (ps : List Plate) (ts : List Triple) (us : List Total) (g : Found) (start : ℕ) → length g.cells ≡ n
    → length g.plates ≡ 0 → length g.triples ≡ 0 → rules g + (length ps + (length ts + length us)) ≤ 1024
    → Each (LawfulPlate n) ps → Each (LawfulTriple n) ts → Each (LawfulTotal n) us
    → Fine g start (section 2 plate_bytes ps ++ (section 3 triple_bytes ts ++ section 4 total_bytes us))
fine_plates n l [] ts us g start c y z h lp lt lu = fine_triples n l ts us g start c z (omega arith) lt lu
fine_plates n l (p ∷ ps) ts us g start c y z h lp lt lu = (
  omega arith,
  subst (λ (k : ℕ). Each (Good plates_form k) (map plate_bytes (p ∷ ps))) (sym c) (goods plates_form n plate_bytes (LawfulPlate n) (good_plate n l) (p ∷ ps) lp),
  omega (arith, length-map ps plate_bytes),
  fine_triples n l ts us (found g 2 (map (λ i. start + i) (offsets 0 (map plate_bytes (p ∷ ps))))) _ c z (omega (arith, count start plate_bytes (p ∷ ps))) lt lu,
)

-- a section that stands in the file at its place is read
read_section : {A : Type 0} (at : List ℕ → ℕ → A) (encode : A → List ℕ) (P : A → Type 0)
    → ((x : A) (pre post : List ℕ) → P x → at (pre ++ (encode x ++ post)) (length pre) ≡ x)
    → (xs : List A) → Each P xs → (f : List ℕ) (start : ℕ)
    → (pre : List ℕ) × (post : List ℕ) × (length pre ≡ start) × (f ≡ pre ++ (all (map encode xs) ++ post))
    → map (at f) (map (λ j. start + j) (offsets 0 (map encode xs))) ≡ xs
read_section at encode P back xs law f start s =
    ap (λ (q : List ℕ). map (at q) (map (λ j. start + j) (offsets 0 (map encode xs)))) s.3
    ∙ reads at encode P back xs law s.0 s.1 start 0 (omega (arith, s.2))

tail_totals : (n : ℕ) → n ≤ 1024 → (us : List Total) (f : List ℕ) (g : Found) (start : ℕ) → g.totals ≡ [] → Each (LawfulTotal n) us
    → Spots f start (section 4 total_bytes us) → let h = placed g start (section 4 total_bytes us) in
    (h.cells ≡ g.cells) × (h.plates ≡ g.plates) × (h.triples ≡ g.triples) × (map (total_at f) h.totals ≡ us)
tail_totals n l [] f g start e law s = (refl, refl, refl, ap (map (total_at f)) e)
tail_totals n l (u ∷ us) f g start e law s =
    (refl, refl, refl, read_section total_at total_bytes (LawfulTotal n) (total_read n l) (u ∷ us) law f start s.0)

tail_triples : (n : ℕ) → n ≤ 1024 → (ts : List Triple) (us : List Total) (f : List ℕ) (g : Found) (start : ℕ) → g.triples ≡ [] → g.totals ≡ []
    → Each (LawfulTriple n) ts → Each (LawfulTotal n) us
    → Spots f start (section 3 triple_bytes ts ++ section 4 total_bytes us) → let h = placed g start (section 3 triple_bytes ts ++ section 4 total_bytes us) in
    (h.cells ≡ g.cells) × (h.plates ≡ g.plates) × (map (triple_at f) h.triples ≡ ts) × (map (total_at f) h.totals ≡ us)
tail_triples n l [] us f g start d e lt lu s =
    let x = tail_totals n l us f g start e lu s in (x.0, x.1, ap (map (triple_at f)) (x.2 ∙ d), x.3)
tail_triples n l (t ∷ ts) us f g start d e lt lu s =
    let x = tail_totals n l us f (found g 3 (map (λ i. start + i) (offsets 0 (map triple_bytes (t ∷ ts))))) _ e lu s.1 in
    (x.0, x.1, ap (map (triple_at f)) x.2 ∙ read_section triple_at triple_bytes (LawfulTriple n) (triple_read n l) (t ∷ ts) lt f start s.0, x.3)

tail_plates : (n : ℕ) → n ≤ 1024 → (ps : List Plate) (ts : List Triple) (us : List Total) (f : List ℕ) (g : Found) (start : ℕ)
    → g.plates ≡ [] → g.triples ≡ [] → g.totals ≡ [] → Each (LawfulPlate n) ps → Each (LawfulTriple n) ts → Each (LawfulTotal n) us
    → Spots f start (section 2 plate_bytes ps ++ (section 3 triple_bytes ts ++ section 4 total_bytes us))
    → let h = placed g start (section 2 plate_bytes ps ++ (section 3 triple_bytes ts ++ section 4 total_bytes us)) in
    (h.cells ≡ g.cells) × (map (plate_at f) h.plates ≡ ps) × (map (triple_at f) h.triples ≡ ts) × (map (total_at f) h.totals ≡ us)
tail_plates n l [] ts us f g start c d e lp lt lu s =
    let x = tail_triples n l ts us f g start d e lt lu s in (x.0, ap (map (plate_at f)) (x.1 ∙ c), x.2, x.3)
tail_plates n l (p ∷ ps) ts us f g start c d e lp lt lu s =
    let x = tail_triples n l ts us f (found g 2 (map (λ i. start + i) (offsets 0 (map plate_bytes (p ∷ ps))))) _ d e lt lu s.1 in
    (x.0, ap (map (plate_at f)) x.1 ∙ read_section plate_at plate_bytes (LawfulPlate n) (plate_read n l) (p ∷ ps) lp f start s.0, x.2, x.3)

whole : (cs : List Row) (ps : List Plate) (ts : List Triple) (us : List Total) → let r : Records = record { cells = cs; plates = ps; triples = ts; totals = us } in
    Lawful r → (g : Found) × (reading (written r) ≡ granted g) × Read (written r) g r
whole [] ps ts us law = absurd (omega (arith, law.some_cells))
whole (c ∷ cs) ps ts us law =
    let r : Records = record { cells = c ∷ cs; plates = ps; triples = ts; totals = us } in
    let ss = sections r in
    let start = 1 + 9 * length ss in
    let n = length (c ∷ cs) in
    let rest = section 2 plate_bytes ps ++ (section 3 triple_bytes ts ++ section 4 total_bytes us) in
    let four : length ss ≤ 4 = omega (
      arith,
      length-append (section 2 plate_bytes ps) (section 3 triple_bytes ts ++ section 4 total_bytes us),
      length-append (section 3 triple_bytes ts) (section 4 total_bytes us),
      one_section 2 plate_bytes ps,
      one_section 3 triple_bytes ts,
      one_section 4 total_bytes us,
    ) in
    let g1 = found nothing 1 (map (λ i. start + i) (offsets 0 (map bounds_bytes (c ∷ cs)))) in
    let cells : length g1.cells ≡ n = count start bounds_bytes (c ∷ cs) in
    let fine : Fine nothing start ss = (
      omega arith,
      goods cells_form 0 bounds_bytes LawfulBounds (good_bounds 0) (c ∷ cs) law.cells,
      omega (arith, law.few_cells, length-map cs bounds_bytes),
      fine_plates n law.few_cells ps ts us g1 _ cells refl refl (omega (arith, law.few_rules)) law.plates law.triples law.totals,
    ) in
    let spot = filed_spots ss in
    let x = tail_plates n law.few_cells ps ts us (written r) g1 _ refl refl refl law.plates law.triples law.totals spot.1 in (
      placed nothing start ss,
      filed_granted ss (omega arith) four law.short (ordered c cs ps ts us start) fine,
      record {
        cells = ap (map (bounds_at (written r))) x.0
            ∙ read_section bounds_at bounds_bytes LawfulBounds bounds_read (c ∷ cs) law.cells (written r) start spot.0;
        plates = x.1;
        triples = x.2;
        totals = x.3;
      },
    )

pub written_granted : (r : Records) → Lawful r → (g : Found) × (reading (written r) ≡ granted g) × Read (written r) g r
written_granted r law = whole r.cells r.plates r.triples r.totals law

pub found_again : (f : List ℕ) (g : Found) → reading f ≡ granted g → (x : Records) → Lawful x → written x ≡ f → Read f g x
found_again f g e x law w =
    let y = written_granted x law in
    let same : y.0 ≡ g = grants y.0 g (sym y.1 ∙ ap reading w ∙ e) in
    subst (λ (h : Found). Read f h x) same (subst (λ (q : List ℕ). Read q y.0 x) w y.2)
  where
    grants : (a b : Found) → ◌≡◌ {A = Reading} (granted a) (granted b) → a ≡ b
    grants a b e = cc

pub never_refused : (f : List ℕ) (r : Refused) → reading f ≡ refused r → (x : Records) → Lawful x → written x ≡ f → ⊥
never_refused f r e x law w =
    let y = written_granted x law in clash y.0 (sym y.1 ∙ ap reading w ∙ e)
  where
    clash : (a : Found) → ◌≡◌ {A = Reading} (granted a) (refused r) → ⊥
    clash a e = let z : ◌≡◌ {A = ℕ} 0 1 = cc in omega arith
