-- What is asked of the cells of a scope, asked of their indices one by one.
use Rattle.std.proofs.Common.{◌≡◌, ℕ, zero, suc, eqb, get_or, take, ◌+◌, ◌<◌, Bool, true, false, cond, not, ◌&&◌, ◌||◌, List, [], ◌∷◌, length, drop, ◌==◌, nat_lt, slice_index, refl, ap, ap₂, ◌∙◌, arith}
use Rattle.std.specs.List.{list_all, list_any, range_with_len}
use Rattle.bounds.specs.Scoped.{fits, names, distinct}

-- the test at an index after a, of what a list has there after its first
further : {A : Type 0} (test : ℕ → A) (of : ℕ → A) (a : ℕ) (k : ℕ) → ((i : ℕ) → i < suc k → test (a + i) ≡ of i) → (i : ℕ) → i < k → test ((a + 1) + i) ≡ of (suc i)
further test of a k e i l = let s : (a + 1) + i ≡ a + suc i = omega arith in ap test s ∙ e (suc i) (omega arith)

first : {A : Type 0} (test : ℕ → A) (of : ℕ → A) (a : ℕ) (k : ℕ) → ((i : ℕ) → i < suc k → test (a + i) ≡ of i) → test a ≡ of 0
first test of a k e = let s : a ≡ a + 0 = omega arith in ap test s ∙ e 0 (omega arith)

pub fits_by_index : (cs : List ℕ) (n : ℕ) (test : ℕ → Bool) (a : ℕ)
    → ((i : ℕ) → i < length cs → test (a + i) ≡ nat_lt (slice_index cs i) n) → list_all test (range_with_len a (length cs)) ≡ fits cs n
fits_by_index [] n test a e = refl
fits_by_index (c ∷ cs) n test a e =
    let of = λ (i : ℕ). nat_lt (slice_index (c ∷ cs) i) n in
    ap₂ (λ x y. x && y) (first test of a (length cs) e) (fits_by_index cs n test (a + 1) (further test of a (length cs) e))

or_is_cond : (a b : Bool) → (a || b) ≡ cond a true b
or_is_cond true b = refl
or_is_cond false b = refl

pub names_by_index : (cs : List ℕ) (c : ℕ) (test : ℕ → Bool) (a : ℕ)
    → ((i : ℕ) → i < length cs → test (a + i) ≡ (slice_index cs i == c)) → list_any test (range_with_len a (length cs)) ≡ names cs c
names_by_index [] c test a e = refl
names_by_index (x ∷ xs) c test a e =
    let of = λ (i : ℕ). slice_index (x ∷ xs) i == c in
    or_is_cond (test a) (list_any test (range_with_len (a + 1) (length xs))) ∙ ap₂ (λ p q. cond p true q) (first test of a (length xs) e) (names_by_index xs c test (a + 1) (further test of a (length xs) e))

-- whether the cell at an index is named after it too
abbrev pub again : List ℕ → ℕ → Bool
again cs i = names (drop (suc i) cs) (slice_index cs i)

pub distinct_by_index : (cs : List ℕ) (test : ℕ → Bool) (a : ℕ)
    → ((i : ℕ) → i < length cs → test (a + i) ≡ not (again cs i)) → list_all test (range_with_len a (length cs)) ≡ distinct cs
distinct_by_index [] test a e = refl
distinct_by_index (c ∷ cs) test a e =
    let of = λ (i : ℕ). not (again (c ∷ cs) i) in
    ap₂ (λ x y. x && y) (first test of a (length cs) e) (distinct_by_index cs test (a + 1) (further test of a (length cs) e))

names_suc : (cs : List ℕ) (i c : ℕ) → i < length cs → names (take (suc i) cs) c ≡ (names (take i cs) c || eqb (get_or cs i 0) c)
names_suc [] i c l = absurd (omega arith)
names_suc (x ∷ cs) zero c l = one (eqb x c)
  where
    one : (b : Bool) → cond b true false ≡ (false || b)
    one true = refl
    one false = refl
names_suc (x ∷ cs) (suc i) c l = ap (cond (eqb x c) true) (names_suc cs i c (omega arith)) ∙ past (eqb x c) (names (take i cs) c) (eqb (get_or cs i 0) c)
  where
    past : (b y z : Bool) → cond b true (y || z) ≡ (cond b true y || z)
    past true y z = refl
    past false y z = refl

-- of the first cells, the next is one more that is named
pub names_next : (cs : List ℕ) (i c : ℕ) → i < length cs → names (take (i + 1) cs) c ≡ (names (take i cs) c || eqb (get_or cs i 0) c)
names_next cs i c l = let one : i + 1 ≡ suc i = omega arith in ap (λ k. names (take k cs) c) one ∙ names_suc cs i c l
