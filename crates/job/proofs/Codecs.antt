-- What is written in bytes is read back.
use Rattle.std.proofs.Common.{◌≡◌, ℕ, zero, suc, ◌+◌, ◌*◌, ◌/◌, ◌%◌, ◌<◌, List, [], ◌∷◌, ◌++◌, length, sym, refl, ap, ◌∙◌, append_assoc, arith}
use Rattle.std.specs.List.{flat_map}
use Rattle.std.proofs.lemmas.List.{get_or-append-add, length-append}
use Rattle.records.specs.Bytes.{number}
use Rattle.bounds.specs.declared.row.Row.{Row}
use Rattle.records.specs.Records.{bounds_at, Plate, plate_at, Triple, triple_at, Term, Total, total_at, numbers, terms}
use Rattle.job.specs.Written.{bytes, bounds_bytes, plate_bytes, triple_bytes, term_bytes, total_bytes, Each}

-- bytes behind others
pub number_behind : (w : ℕ) (pre xs : List ℕ) (i : ℕ) → number w (pre ++ xs) (length pre + i) ≡ number w xs i
number_behind zero pre xs i = refl
number_behind (suc w) pre xs i =
    let p : length pre + i + 1 ≡ length pre + (i + 1) = omega arith in
    λ t. get_or-append-add pre xs i 0 t + 256 * (ap (number w (pre ++ xs)) p ∙ number_behind w pre xs (i + 1)) t

-- one more than the highest number in w bytes
abbrev pub bound : ℕ → ℕ
bound zero = 1
bound (suc w) = 256 * bound w

pub number_written : (w n : ℕ) (post : List ℕ) → n < bound w → number w (bytes w n ++ post) 0 ≡ n
number_written zero n post h = omega arith
number_written (suc w) n post h =
    let a : number w (n % 256 ∷ (bytes w (n / 256) ++ post)) 1 ≡ number w (bytes w (n / 256) ++ post) 0 = number_behind w (n % 256 ∷ []) (bytes w (n / 256) ++ post) 0 in
    let b = number_written w (n / 256) post (omega arith) in
    omega (arith, a, b)

-- a number that stands in a file behind some bytes
pub number_at : (w n : ℕ) (pre post : List ℕ) → n < bound w → number w (pre ++ (bytes w n ++ post)) (length pre) ≡ n
number_at w n pre post h =
    let p : length pre ≡ length pre + 0 = omega arith in
    ap (number w (pre ++ (bytes w n ++ post))) p ∙ number_behind w pre (bytes w n ++ post) 0 ∙ number_written w n post h

pub length_bytes : (w n : ℕ) → length (bytes w n) ≡ w
length_bytes zero n = refl
length_bytes (suc w) n = ap suc (length_bytes w (n / 256))

-- the numbers of a record, from a place on
pub numbers_at : (cs : List ℕ) (pre post : List ℕ) → Each (λ c. c < 65536) cs
    → numbers (length cs) (pre ++ (flat_map (bytes 2) cs ++ post)) (length pre) ≡ cs
numbers_at [] pre post h = refl
numbers_at (c ∷ cs) pre post h =
    let rest = flat_map (bytes 2) cs ++ post in
    let f : List ℕ = pre ++ (bytes 2 c ++ rest) in
    let q : length pre + 2 ≡ length (pre ++ bytes 2 c) = omega (arith, length-append pre (bytes 2 c)) in
    let a : number 2 f (length pre) ≡ c = number_at 2 c pre rest h.0 in
    let b : numbers (length cs) f (length pre + 2) ≡ cs
    = ap (numbers (length cs) f) q ∙ ap (λ (g : List ℕ). numbers (length cs) g (length (pre ++ bytes 2 c))) (sym (append_assoc pre (bytes 2 c) rest))
    ∙ numbers_at cs (pre ++ bytes 2 c) post h.1 in
    λ t. a t ∷ b t

pub terms_at : (ts : List Term) (pre post : List ℕ) → Each (λ t. (t.cell < 65536) × (t.weight < 4294967296)) ts
    → terms (length ts) (pre ++ (flat_map term_bytes ts ++ post)) (length pre) ≡ ts
terms_at [] pre post h = refl
terms_at (x ∷ ts) pre post h =
    let rest = flat_map term_bytes ts ++ post in
    let f : List ℕ = pre ++ (term_bytes x ++ rest) in
    let q : length pre + 6 ≡ length (pre ++ term_bytes x) = omega (arith, length-append pre (term_bytes x)) in
    let a : number 2 f (length pre) ≡ x.cell = number_at 2 x.cell pre (bytes 4 x.weight ++ rest) h.0.0 in
    let w : number 4 f (length pre + 2) ≡ x.weight = number_behind 4 pre (term_bytes x ++ rest) 2
    ∙ number_behind 4 (bytes 2 x.cell) (bytes 4 x.weight ++ rest) 0 ∙ number_written 4 x.weight rest h.0.1 in
    let b : terms (length ts) f (length pre + 6) ≡ ts
    = ap (terms (length ts) f) q ∙ ap (λ (g : List ℕ). terms (length ts) g (length (pre ++ term_bytes x))) (sym (append_assoc pre (term_bytes x) rest))
    ∙ terms_at ts (pre ++ term_bytes x) post h.1 in
    λ t. record { cell = a t; weight = w t } ∷ b t

-- a field behind others of its record
pub field : (w : ℕ) (fields : List ℕ) (n : ℕ) (pre post : List ℕ) → n < bound w → number w (pre ++ (fields ++ (bytes w n ++ post))) (length pre + length fields) ≡ n
field w fields n pre post h = number_behind w pre (fields ++ (bytes w n ++ post)) (length fields) ∙ number_at w n fields post h

-- each kind of record
pub bounds_back : (x : Row) (pre post : List ℕ) → x.low < 65536 → x.high < 65536 → bounds_at (pre ++ (bounds_bytes x ++ post)) (length pre) ≡ x
bounds_back x pre post h g = λ t. record {
  low = number_at 2 x.low pre (bytes 2 x.high ++ post) h t;
  high = field 2 (bytes 2 x.low) x.high pre post g t;
}

pub triple_back : (x : Triple) (pre post : List ℕ) → x.kind < 65536 → x.a < 65536 → x.b < 65536 → x.c < 65536
    → triple_at (pre ++ (triple_bytes x ++ post)) (length pre) ≡ x
triple_back x pre post h ha hb hc = λ t. record {
  kind = number_at 2 x.kind pre (bytes 2 x.a ++ (bytes 2 x.b ++ (bytes 2 x.c ++ post))) h t;
  a = field 2 (bytes 2 x.kind) x.a pre (bytes 2 x.b ++ (bytes 2 x.c ++ post)) ha t;
  b = field 2 (bytes 2 x.kind ++ bytes 2 x.a) x.b pre (bytes 2 x.c ++ post) hb t;
  c = field 2 (bytes 2 x.kind ++ (bytes 2 x.a ++ bytes 2 x.b)) x.c pre post hc t;
}

pub plate_back : (x : Plate) (pre post : List ℕ) → x.slots < 65536 → x.variety < 65536 → length x.counts < 65536 → Each (λ c. c < 65536) x.counts
    → plate_at (pre ++ (plate_bytes x ++ post)) (length pre) ≡ x
plate_back x pre post hs hv hn hc =
    let rest = flat_map (bytes 2) x.counts ++ post in
    let n = length x.counts in
    let head : List ℕ = bytes 2 x.slots ++ (bytes 2 x.variety ++ bytes 2 n) in
    let f : List ℕ = pre ++ (plate_bytes x ++ post) in
    let q : length pre + 6 ≡ length (pre ++ head) = omega (arith, length-append pre head) in
    let k : number 2 f (length pre + 4) ≡ n = field 2 (bytes 2 x.slots ++ bytes 2 x.variety) n pre rest hn in
    let cs : numbers (number 2 f (length pre + 4)) f (length pre + 6) ≡ x.counts
    = (λ t. numbers (k t) f (q t)) ∙ ap (λ (g : List ℕ). numbers n g (length (pre ++ head))) (sym (append_assoc pre head rest))
    ∙ numbers_at x.counts (pre ++ head) post hc in
    λ t. record {
      slots = number_at 2 x.slots pre (bytes 2 x.variety ++ (bytes 2 n ++ rest)) hs t;
      variety = field 2 (bytes 2 x.slots) x.variety pre (bytes 2 n ++ rest) hv t;
      counts = cs t;
    }

pub total_back : (x : Total) (pre post : List ℕ) → length x.terms < 65536 → x.floor < 18446744073709551616 → x.ceiling < 18446744073709551616
    → Each (λ t. (t.cell < 65536) × (t.weight < 4294967296)) x.terms
    → total_at (pre ++ (total_bytes x ++ post)) (length pre) ≡ x
total_back x pre post hn hf hc ht =
    let rest = flat_map term_bytes x.terms ++ post in
    let n = length x.terms in
    let head : List ℕ = bytes 2 n ++ (bytes 8 x.floor ++ bytes 8 x.ceiling) in
    let f : List ℕ = pre ++ (total_bytes x ++ post) in
    let q : length pre + 18 ≡ length (pre ++ head) = omega (arith, length-append pre head) in
    let k : number 2 f (length pre) ≡ n = number_at 2 n pre (bytes 8 x.floor ++ (bytes 8 x.ceiling ++ rest)) hn in
    let ts : terms (number 2 f (length pre)) f (length pre + 18) ≡ x.terms
    = (λ t. terms (k t) f (q t)) ∙ ap (λ (g : List ℕ). terms n g (length (pre ++ head))) (sym (append_assoc pre head rest))
    ∙ terms_at x.terms (pre ++ head) post ht in
    λ t. record {
      floor = field 8 (bytes 2 n) x.floor pre (bytes 8 x.ceiling ++ rest) hf t;
      ceiling = field 8 (bytes 2 n ++ bytes 8 x.floor) x.ceiling pre rest hc t;
      terms = ts t;
    }
