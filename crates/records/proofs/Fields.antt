-- The lists of cells in a record: how many there are, and where each stands.
use Rattle.std.proofs.Common.{◌≡◌, ℕ, zero, suc, ◌+◌, ◌*◌, ◌<◌, ◌≤◌, Bool, true, false, ◌&&◌, List, [], ◌∷◌, length, map, get_or, sym, refl, ap, ap₂, ◌∙◌, inl, inr, arith}
use Rattle.std.proofs.lemmas.Bool.{cases_eq}
use Rattle.std.specs.List.{list_all, range_with_len}
use Rattle.records.specs.Bytes.{number}
use Rattle.records.specs.Records.{numbers, Term, terms}
use Rattle.records.specs.Forms.{term_cells, weighted, between}

pub length_numbers : (k : ℕ) (f : List ℕ) (i : ℕ) → length (numbers k f i) ≡ k
length_numbers zero f i = refl
length_numbers (suc k) f i = ap suc (length_numbers k f (i + 2))

pub get_or_numbers : (k : ℕ) (f : List ℕ) (i j : ℕ) → j < k → get_or (numbers k f i) j 0 ≡ number 2 f (i + 2 * j)
get_or_numbers zero f i j h = absurd (omega arith)
get_or_numbers (suc k) f i zero h = ap (number 2 f) (omega arith)
get_or_numbers (suc k) f i (suc j) h = get_or_numbers k f (i + 2) j (omega arith) ∙ ap (number 2 f) (omega arith)

pub length_terms : (k : ℕ) (f : List ℕ) (i : ℕ) → length (terms k f i) ≡ k
length_terms zero f i = refl
length_terms (suc k) f i = ap suc (length_terms k f (i + 6))

pub length_cells : (k : ℕ) (f : List ℕ) (i : ℕ) → length (term_cells (terms k f i)) ≡ k
length_cells zero f i = refl
length_cells (suc k) f i = ap suc (length_cells k f (i + 6))

pub get_or_cells : (k : ℕ) (f : List ℕ) (i j : ℕ) → j < k → get_or (term_cells (terms k f i)) j 0 ≡ number 2 f (i + 6 * j)
get_or_cells zero f i j h = absurd (omega arith)
get_or_cells (suc k) f i zero h = ap (number 2 f) (omega arith)
get_or_cells (suc k) f i (suc j) h = get_or_cells k f (i + 6) j (omega arith) ∙ ap (number 2 f) (omega arith)

pub length_weights : (k : ℕ) (f : List ℕ) (i : ℕ) → length (map (λ (t : Term). t.weight) (terms k f i)) ≡ k
length_weights zero f i = refl
length_weights (suc k) f i = ap suc (length_weights k f (i + 6))

pub get_or_weights : (k : ℕ) (f : List ℕ) (i j : ℕ) → j < k → get_or (map (λ (t : Term). t.weight) (terms k f i)) j 0 ≡ number 4 f (i + 6 * j + 2)
get_or_weights zero f i j h = absurd (omega arith)
get_or_weights (suc k) f i zero h = ap (number 4 f) (omega arith)
get_or_weights (suc k) f i (suc j) h = get_or_weights k f (i + 6) j (omega arith) ∙ ap (number 4 f) (omega arith)

-- the weights, asked one by one
pub weighted_by_index : (ts : List Term) (test : ℕ → Bool) (a : ℕ)
    → ((j : ℕ) → j < length ts → test (a + j) ≡ between 1 1000000 (get_or (map (λ (t : Term). t.weight) ts) j 0)) → list_all test (range_with_len a (length ts)) ≡ weighted ts
weighted_by_index [] test a e = refl
weighted_by_index (t ∷ ts) test a e =
    let first : a ≡ a + 0 = omega arith in
    ap₂ ◌&&◌ (ap test first ∙ e 0 (omega arith)) (weighted_by_index ts test (a + 1) (λ j l. let s : (a + 1) + j ≡ a + suc j = omega arith in ap test s ∙ e (suc j) (omega arith)))

weighted_on : (ts : List Term) → ((j : ℕ) → j < length ts → between 1 1000000 (get_or (map (λ (t : Term). t.weight) ts) j 0) ≡ true) → weighted ts ≡ true
weighted_on [] h = refl
weighted_on (t ∷ ts) h = (λ i. h 0 (omega arith) i && weighted_on ts (λ j l. h (suc j) (omega arith)) i)

weighted_off : (ts : List Term) (j : ℕ) → j < length ts → between 1 1000000 (get_or (map (λ (t : Term). t.weight) ts) j 0) ≡ false → weighted ts ≡ false
weighted_off [] j l e = absurd (omega arith)
weighted_off (t ∷ ts) zero l e = ap (λ b. b && weighted ts) e
weighted_off (t ∷ ts) (suc j) l e = ap (λ b. between 1 1000000 t.weight && b) (weighted_off ts j (omega arith) e) ∙ none (between 1 1000000 t.weight)
  where
    none : (b : Bool) → (b && false) ≡ false
    none true = refl
    none false = refl

-- the weights of the total at a place, one after another
module _ (f : List ℕ) (p : ℕ) where
  abbrev the_terms : List Term
  the_terms = terms (number 2 f p) f (p + 18)

  abbrev pub KeepBelow : ℕ → Type 0
  KeepBelow i = (j : ℕ) → j < i → between 1 1000000 (get_or (map (λ (t : Term). t.weight) the_terms) j 0) ≡ true

  pub weights_on : (i : ℕ) → number 2 f p ≤ i → KeepBelow i → true ≡ weighted the_terms
  weights_on i all keep = sym (weighted_on the_terms (λ j l. keep j (omega (arith, length_terms (number 2 f p) f (p + 18)))))

  module _ (i w : ℕ) (ok : Bool) (here : i < number 2 f p) (read : w ≡ number 4 f (p + (18 + 6 * i + 2))) (is : ok ≡ between 1 1000000 w) where
    found : between 1 1000000 (get_or (map (λ (t : Term). t.weight) the_terms) i 0) ≡ ok
    found = ap (between 1 1000000) (get_or_weights (number 2 f p) f (p + 18) i here ∙ ap (number 4 f) (omega arith) ∙ sym read) ∙ sym is

    pub weight_off : ok ≡ false → false ≡ weighted the_terms
    weight_off e = sym (weighted_off the_terms i (omega (arith, length_terms (number 2 f p) f (p + 18))) (found ∙ e))

    pub weight_on : ok ≡ true → KeepBelow i → KeepBelow (i + 1)
    weight_on e keep j l = elim (cases_eq j i) [
      | inl same ↦ ap (λ k. between 1 1000000 (get_or (map (λ (t : Term). t.weight) the_terms) k 0)) same ∙ found ∙ e
      | inr apart ↦ keep j (omega arith)
    ]
