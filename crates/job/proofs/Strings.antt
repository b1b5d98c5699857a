-- The walk over a body that is made of records.
use Rattle.std.proofs.Common.{◌≡◌, ℕ, zero, suc, ◌+◌, ◌<◌, ◌≤◌, Bool, true, false, cond, not, ◌&&◌, ltb, List, [], ◌∷◌, ◌++◌, length, None, Option, sym, refl, ap, ◌∙◌, append_assoc, arith}
use Rattle.std.specs.List.{flat_map}
use Rattle.std.proofs.lemmas.List.{length-append}
use Rattle.std.proofs.lemmas.Bool.{lt-ltb, le-ltb}
use Rattle.bounds.specs.Scoped.{fits, distinct}
use Rattle.records.specs.Forms.{Form}
use Rattle.records.specs.Refusals.{line}
use Rattle.records.specs.declared.refused.Refused.{Refused}
use Rattle.job.specs.Contents.{first, when}
use Rattle.job.specs.Reading.{records, record_fault, record_faults, body_records}
use Rattle.job.specs.Written.{Each}

-- the bytes of a record without fault, wherever they stand
pub record Good (s : Form) (cells : ℕ) (x : List ℕ) : Type 0 where
  pub some : 0 < length x
  pub size : (pre post : List ℕ) → s.size (pre ++ (x ++ post)) (length pre) ≡ length x
  pub limits : (pre post : List ℕ) → s.limits (pre ++ (x ++ post)) (length pre) ≡ true
  pub fit : (pre post : List ℕ) → fits (s.names (pre ++ (x ++ post)) (length pre)) cells ≡ true
  pub apart : (pre post : List ℕ) → distinct (s.names (pre ++ (x ++ post)) (length pre)) ≡ true

-- where the records stand, the first at a place
abbrev pub offsets : ℕ → List (List ℕ) → List ℕ
offsets i [] = []
offsets i (x ∷ xs) = i ∷ offsets (i + length x) xs

abbrev pub all : List (List ℕ) → List ℕ
all xs = flat_map (λ x. x) xs

pub length_offsets : (i : ℕ) (xs : List (List ℕ)) → length (offsets i xs) ≡ length xs
length_offsets i [] = refl
length_offsets i (x ∷ xs) = ap suc (length_offsets (i + length x) xs)

pub many : (s : Form) (cells : ℕ) (xs : List (List ℕ)) → Each (Good s cells) xs → length xs ≤ length (all xs)
many s cells [] h = omega arith
many s cells (x ∷ xs) h = omega (arith, many s cells xs h.1, h.0.some, length-append x (all xs))

pub walks : (s : Form) (cells : ℕ) (x : List ℕ) (xs : List (List ℕ)) (pre : List ℕ) (k : ℕ) → Each (Good s cells) (x ∷ xs) → length xs ≤ k
    → records s (pre ++ all (x ∷ xs)) (suc k) (length pre) ≡ offsets (length pre) (x ∷ xs)
walks s cells x [] pre k h l =
    let b : List ℕ = pre ++ (x ++ []) in
    let e = h.0.size pre [] in
    let stop : ltb (length pre + s.size b (length pre)) (length b) ≡ false = le-ltb _ _ (omega (arith, e, length-append pre (x ++ []), length-append x [])) in
    ap (λ (t : Bool). length pre ∷ cond t (records s b k (length pre + s.size b (length pre))) []) stop
walks s cells x (y ∷ ys) pre zero h l = absurd (omega arith)
walks s cells x (y ∷ ys) pre (suc k) h l =
    let b : List ℕ = pre ++ (x ++ all (y ∷ ys)) in
    let e = h.0.size pre (all (y ∷ ys)) in
    let more : ltb (length pre + s.size b (length pre)) (length b) ≡ true
    = lt-ltb _ _ (omega (arith, e, h.1.0.some, length-append pre (x ++ all (y ∷ ys)), length-append x (all (y ∷ ys)), length-append y (all ys))) in
    let n : length pre + s.size b (length pre) ≡ length (pre ++ x) = omega (arith, e, length-append pre x) in
    let m : length pre + length x ≡ length (pre ++ x) = omega (arith, length-append pre x) in
    ap (λ (t : Bool). length pre ∷ cond t (records s b (suc k) (length pre + s.size b (length pre))) []) more
    ∙ ap (λ (i : ℕ). length pre ∷ records s b (suc k) i) n
    ∙ ap (λ (c : List ℕ). length pre ∷ records s c (suc k) (length (pre ++ x))) (sym (append_assoc pre x (all (y ∷ ys))))
    ∙ ap (λ (is : List ℕ). length pre ∷ is) (walks s cells y ys (pre ++ x) k h.1 (omega arith))
    ∙ ap (λ (i : ℕ). length pre ∷ offsets i (y ∷ ys)) (sym m)

no_fault : (s : Form) (start cells : ℕ) (x pre post : List ℕ) (number : ℕ) → Good s cells x → number < 1024
    → record_fault s start cells (pre ++ (x ++ post)) number (length pre) ≡ None
no_fault s start cells x pre post number g h =
    let b : List ℕ = pre ++ (x ++ post) in let i = length pre in
    let inside : ltb (length b) (i + s.size b i) ≡ false = le-ltb _ _ (omega (arith, g.size pre post, length-append pre (x ++ post), length-append x post)) in
    let few : ltb number 1024 ≡ true = lt-ltb _ _ h in
    λ t. first (when (inside t) (line 5 s.kind (start + i)))
    (first (when (not (few t && (g.limits pre post t && g.fit pre post t))) (line 6 s.kind (start + i)))
    (when (not (g.apart pre post t)) (line 7 s.kind (start + i))))

pub faultless : (s : Form) (start cells : ℕ) (xs : List (List ℕ)) (pre : List ℕ) (number : ℕ) → Each (Good s cells) xs → number + length xs ≤ 1024
    → record_faults s start cells (pre ++ all xs) number (offsets (length pre) xs) ≡ None
faultless s start cells [] pre number h l = refl
faultless s start cells (x ∷ xs) pre number h l =
    let b : List ℕ = pre ++ (x ++ all xs) in
    let m : length pre + length x ≡ length (pre ++ x) = omega (arith, length-append pre x) in
    ap (λ (o : Option Refused). first o (record_faults s start cells b (number + 1) (offsets (length pre + length x) xs)))
    (no_fault s start cells x pre (all xs) number h.0 (omega arith))
    ∙ (λ t. record_faults s start cells (sym (append_assoc pre x (all xs)) t) (number + 1) (offsets (m t) xs))
    ∙ faultless s start cells xs (pre ++ x) (number + 1) h.1 (omega arith)

-- a whole body
pub body_offsets : (s : Form) (cells : ℕ) (xs : List (List ℕ)) → 1 ≤ length xs → Each (Good s cells) xs → body_records s (all xs) ≡ offsets 0 xs
body_offsets s cells [] l h = absurd (omega arith)
body_offsets s cells (x ∷ xs) l h = walks s cells x xs [] (length (all (x ∷ xs))) h (omega (arith, many s cells (x ∷ xs) h))
