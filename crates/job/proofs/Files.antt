-- The file of sections: its contents, and where its bodies stand.
use Rattle.std.proofs.Common.{◌≡◌, ℕ, ◌+◌, ◌*◌, ◌<◌, Bool, true, cond, List, [], ◌∷◌, ◌++◌, length, get_or, take, drop, Some, None, sym, refl, ap, ◌∙◌, append_assoc, arith}
use Rattle.std.specs.List.{flat_map}
use Rattle.std.proofs.lemmas.List.{length-append, get_or_at, drop_at, take_at}
use Rattle.std.proofs.lemmas.Bool.{eq-eqb, le-leb, and_from}
use Rattle.records.specs.Refusals.{line}
use Rattle.job.specs.declared.entry.Entry.{Entry}
use Rattle.job.specs.Contents.{entries_from, ends, misplaced}
use Rattle.job.specs.Reading.{body}
use Rattle.job.specs.Written.{Section, content, listing, bytes}
use Rattle.job.proofs.Codecs.{field}

abbrev pub listed : ℕ → List Section → List Entry
listed start [] = []
listed start (s ∷ ss) = record { kind = s.kind; offset = start; size = length (content s) } ∷ listed (start + length (content s)) ss

pub entries_listed : (ss : List Section) (pre post : List ℕ) (start : ℕ) → start + length (flat_map content ss) < 4294967296
    → entries_from (length ss) (pre ++ (listing start ss ++ post)) (length pre) ≡ listed start ss
entries_listed [] pre post start h = refl
entries_listed (s ∷ ss) pre post start h =
    let n = length (content s) in
    let row : List ℕ = s.kind ∷ (bytes 4 start ++ bytes 4 n) in
    let rest = listing (start + n) ss ++ post in
    let f : List ℕ = pre ++ (row ++ rest) in
    let l = length-append (content s) (flat_map content ss) in
    let q : length pre + 9 ≡ length (pre ++ row) = omega (arith, length-append pre row) in
    let a : get_or f (length pre) 0 ≡ s.kind = get_or_at pre s.kind ((bytes 4 start ++ bytes 4 n) ++ rest) 0 (length pre) refl in
    let b = field 4 (s.kind ∷ []) start pre (bytes 4 n ++ rest) (omega arith) in
    let c = field 4 (s.kind ∷ bytes 4 start) n pre rest (omega arith) in
    let d : entries_from (length ss) f (length pre + 9) ≡ listed (start + n) ss
    = ap (entries_from (length ss) f) q ∙ ap (λ (g : List ℕ). entries_from (length ss) g (length (pre ++ row))) (sym (append_assoc pre row rest))
    ∙ entries_listed ss (pre ++ row) post (start + n) (omega arith) in
    λ t. record { kind = a t; offset = b t; size = c t } ∷ d t

pub laid_out : (ss : List Section) (start place all : ℕ) → start + length (flat_map content ss) ≡ all → misplaced all start place (listed start ss) ≡ None
laid_out [] start place all h = refl
laid_out (s ∷ ss) start place all h =
    let n = length (content s) in
    let l = length-append (content s) (flat_map content ss) in
    ap (λ (t : Bool). cond t (misplaced all (start + n) (place + 9) (listed (start + n) ss)) (Some (line 4 0 place)))
    (and_from _ _ (eq-eqb start start refl) (fits_in ss (omega arith)))
    ∙ laid_out ss (start + n) (place + 9) all (omega arith)
  where
    fits_in : (qs : List Section) → start + length (content s) + length (flat_map content qs) ≡ all → ends (listed (start + length (content s)) qs) (start + length (content s)) all ≡ true
    fits_in [] e = eq-eqb _ _ (omega arith)
    fits_in (q ∷ qs) e = le-leb _ _ (omega arith)

pub length_listing : (ss : List Section) (start : ℕ) → length (listing start ss) ≡ 9 * length ss
length_listing [] start = refl
length_listing (s ∷ ss) start = let e = length_listing ss (start + length (content s)) in omega arith

pub body_is : (pre xs post : List ℕ) (e : Entry) → e.offset ≡ length pre → e.size ≡ length xs → body (pre ++ (xs ++ post)) e ≡ xs
body_is pre xs post e o n =
    (λ t. take (n t) (drop (o t) (pre ++ (xs ++ post))))
    ∙ ap (take (length xs)) (drop_at pre (xs ++ post) (length pre) refl) ∙ take_at xs post (length xs) refl
