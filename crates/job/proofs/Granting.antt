-- The reading of a file of sections, body by body.
use Rattle.std.proofs.Common.{◌≡◌, ℕ, ◌+◌, ◌*◌, ◌≤◌, Bool, true, cond, not, leb, List, [], ◌∷◌, ◌++◌, map, length, None, Option, sym, refl, ap, ◌∙◌, subst, append_assoc, arith}
use Rattle.std.specs.List.{flat_map}
use Rattle.std.proofs.lemmas.List.{length-append}
use Rattle.std.proofs.lemmas.Bool.{le-ltb, le-leb, and_from}
use Rattle.records.specs.Forms.{between}
use Rattle.records.specs.Refusals.{line}
use Rattle.records.specs.declared.refused.Refused.{Refused}
use Rattle.job.specs.declared.entry.Entry.{Entry}
use Rattle.job.specs.Contents.{entries, first, when, long, short, miscounted, misordered, misplaced, contents_end, contents_fault}
use Rattle.job.specs.Reading.{Found, granted, unless, body, form_of, body_records, record_faults, rules, found, nothing, bodies, reading}
use Rattle.job.specs.Written.{Section, content, listing, filed, Each}
use Rattle.job.proofs.Strings.{Good, offsets, all, body_offsets, faultless}
use Rattle.job.proofs.Files.{listed, entries_listed, laid_out, length_listing, body_is}

-- the places of the records of a section that starts at a place
abbrev pub places : ℕ → Section → List ℕ
places start s = map (λ i. start + i) (offsets 0 s.records)

abbrev pub placed : Found → ℕ → List Section → Found
placed g start [] = g
placed g start (s ∷ ss) = placed (found g s.kind (places start s)) (start + length (content s)) ss

-- each section has records, none with a fault
abbrev pub Fine : Found → ℕ → List Section → Type 0
Fine g start [] = Unit {0}
Fine g start (s ∷ ss) = (1 ≤ length s.records) × Each (Good (form_of s.kind) (length g.cells)) s.records × (rules g + length s.records ≤ 1024)
    × Fine (found g s.kind (places start s)) (start + length (content s)) ss

pub bodies_fine : (ss : List Section) (pre : List ℕ) (g : Found) → Fine g (length pre) ss
    → bodies (pre ++ flat_map content ss) g (listed (length pre) ss) ≡ granted (placed g (length pre) ss)
bodies_fine [] pre g h = refl
bodies_fine (s ∷ ss) pre g h =
    let c = content s in
    let f : List ℕ = pre ++ (c ++ flat_map content ss) in
    let e : Entry = record { kind = s.kind; offset = length pre; size = length c } in
    let x = form_of s.kind in
    let cells = length g.cells in
    let b : body f e ≡ c = body_is pre c (flat_map content ss) e refl refl in
    let is : body_records x (body f e) ≡ offsets 0 s.records = ap (body_records x) b ∙ body_offsets x cells s.records h.0 h.1 in
    let none : record_faults x (length pre) cells (body f e) (rules g) (body_records x (body f e)) ≡ None
    = (λ t. record_faults x (length pre) cells (b t) (rules g) (is t)) ∙ faultless x (length pre) cells s.records [] (rules g) h.1 h.2 in
    let rest = listed (length pre + length c) ss in
    let m : length pre + length c ≡ length (pre ++ c) = omega (arith, length-append pre c) in
    let next = found g s.kind (places (length pre) s) in
    ap (λ (o : Option Refused). unless o (bodies f (found g s.kind (map (λ i. length pre + i) (body_records x (body f e)))) rest)) none
    ∙ ap (λ (js : List ℕ). bodies f (found g s.kind (map (λ i. length pre + i) js)) rest) is
    ∙ (λ t. bodies (sym (append_assoc pre c (flat_map content ss)) t) next (listed (m t) ss))
    ∙ bodies_fine ss (pre ++ c) next (subst (λ (n : ℕ). Fine next n ss) m h.3)
    ∙ ap (λ (n : ℕ). granted (placed next n ss)) (sym m)

-- the file, split after its contents
opening : List Section → List ℕ
opening ss = length ss ∷ listing (1 + 9 * length ss) ss

length_opening : (ss : List Section) → length (length ss ∷ listing (1 + 9 * length ss) ss) ≡ 1 + 9 * length ss
length_opening ss = let e = length_listing ss (1 + 9 * length ss) in omega arith

pub filed_granted : (ss : List Section) → 1 ≤ length ss → length ss ≤ 4 → length (filed ss) ≤ 65535
    → misordered 1 1 1 (listed (1 + 9 * length ss) ss) ≡ None → Fine nothing (1 + 9 * length ss) ss
    → reading (filed ss) ≡ granted (placed nothing (1 + 9 * length ss) ss)
filed_granted ss one four few ord fine =
    let n = length ss in
    let f = filed ss in
    let o = 1 + 9 * n in
    let head : List ℕ = n ∷ listing o ss in
    let lh : length head ≡ o = length_opening ss in
    let size : o + length (flat_map content ss) ≡ length f = omega (arith, lh, length-append (listing o ss) (flat_map content ss)) in
    let some : between 1 4 n ≡ true = and_from (leb 1 n) (leb n 4) (le-leb 1 n one) (le-leb n 4 four) in
    let end : contents_end f ≡ o = ap (λ (t : Bool). cond t (1 + 9 * n) 1) some in
    let es : entries f ≡ listed o ss = entries_listed ss (n ∷ []) (flat_map content ss) o (omega (arith, size, few)) in
    let a : long f ≡ None = ap (λ (t : Bool). when t (line 1 0 65535)) (le-ltb 65535 (length f) few) in
    let b : short f ≡ None = ap (λ (t : Bool). when t (line 2 0 (length f))) (le-ltb (length f) (contents_end f) (omega (arith, end, size))) in
    let c : miscounted f ≡ None = ap (λ (t : Bool). when (not t) (line 3 0 0)) some in
    let d : misordered 1 1 1 (entries f) ≡ None = ap (misordered 1 1 1) es ∙ ord in
    let e : misplaced (length f) (contents_end f) 1 (entries f) ≡ None
    = (λ t. misplaced (length f) (end t) 1 (es t)) ∙ laid_out ss o 1 (length f) size in
    let none : contents_fault f ≡ None = λ t. first (a t) (first (b t) (first (c t) (first (d t) (e t)))) in
    let fine2 : Fine nothing (length head) ss = subst (λ (k : ℕ). Fine nothing k ss) (sym lh) fine in
    ap (λ (x : Option Refused). unless x (bodies f nothing (entries f))) none
    ∙ (λ t. bodies f nothing (es t)) ∙ ap (λ (k : ℕ). bodies f nothing (listed k ss)) (sym lh)
    ∙ bodies_fine ss head nothing fine2 ∙ ap (λ (k : ℕ). granted (placed nothing k ss)) lh

-- each section stands at its place
abbrev pub Spots : List ℕ → ℕ → List Section → Type 0
Spots f start [] = Unit {0}
Spots f start (s ∷ ss) = ((pre : List ℕ) × (post : List ℕ) × (length pre ≡ start) × (f ≡ pre ++ (content s ++ post))) × Spots f (start + length (content s)) ss

pub spots : (ss : List Section) (pre : List ℕ) → Spots (pre ++ flat_map content ss) (length pre) ss
spots [] pre = tt
spots (s ∷ ss) pre =
    let c = content s in
    let m : length pre + length c ≡ length (pre ++ c) = omega (arith, length-append pre c) in
    let p = append_assoc pre c (flat_map content ss) in (
      (pre, flat_map content ss, refl, refl),
      subst (λ (n : ℕ). Spots (pre ++ (c ++ flat_map content ss)) n ss) (sym m)
          (subst (λ (f : List ℕ). Spots f (length (pre ++ c)) ss) p (spots ss (pre ++ c))),
    )

pub filed_spots : (ss : List Section) → Spots (filed ss) (1 + 9 * length ss) ss
filed_spots ss = subst (λ (n : ℕ). Spots (filed ss) n ss) (length_opening ss) (spots ss (length ss ∷ listing (1 + 9 * length ss) ss))

-- records that are written stand there to be read
pub reads : {A : Type 0} (at : List ℕ → ℕ → A) (encode : A → List ℕ) (P : A → Type 0)
    → ((x : A) (pre post : List ℕ) → P x → at (pre ++ (encode x ++ post)) (length pre) ≡ x)
    → (xs : List A) → Each P xs → (pre post : List ℕ) (start i : ℕ) → length pre ≡ start + i
    → map (at (pre ++ (all (map encode xs) ++ post))) (map (λ j. start + j) (offsets i (map encode xs))) ≡ xs
reads at encode P back [] h pre post start i l = refl
reads at encode P back (x ∷ xs) h pre post start i l =
    let c = encode x in
    let rest = all (map encode xs) in
    let assoc : pre ++ ((c ++ rest) ++ post) ≡ pre ++ (c ++ (rest ++ post)) = ap (λ (q : List ℕ). pre ++ q) (append_assoc c rest post) in
    let here : at (pre ++ ((c ++ rest) ++ post)) (start + i) ≡ x = (λ t. at (assoc t) (sym l t)) ∙ back x pre (rest ++ post) h.0 in
    let there = reads at encode P back xs h.1 (pre ++ c) post start (i + length c) (omega (arith, l, length-append pre c)) in
    let moved : pre ++ ((c ++ rest) ++ post) ≡ (pre ++ c) ++ (rest ++ post) = assoc ∙ sym (append_assoc pre c (rest ++ post)) in
    λ t. here t ∷ (ap (λ (f : List ℕ). map (at f) (map (λ j. start + j) (offsets (i + length c) (map encode xs)))) moved ∙ there) t
