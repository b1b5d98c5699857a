-- What the limits of a record are, from its numbers; a part of this is used above, the rest is stated alone.
use Rattle.std.proofs.Common.{◌≡◌, ℕ, zero, suc, ◌+◌, ◌-◌, ◌*◌, ◌<◌, ◌≤◌, Bool, true, false, ◌&&◌, leb, ◌⊎◌, List, ◌∷◌, length, get_or, sym, refl, ap, ◌∙◌, inl, inr, arith}
use Rattle.std.proofs.lemmas.Bool.{and_left, and_right, and_from, le-leb, lt-leb}
use Rattle.std.proofs.lemmas.List.{get_or_past}
use Rattle.records.specs.Bytes.{number}
use Rattle.records.specs.Records.{terms, total_at}
use Rattle.records.specs.Forms.{weighted, between, total_limits}
use Rattle.records.proofs.Fields.{length_terms}

-- what stands past the file's end
pub number_past : (w : ℕ) (f : List ℕ) (i : ℕ) → length f ≤ i → number w f i ≡ 0
number_past zero f i h = refl
number_past (suc w) f i h = omega (arith, get_or_past f i 0 h, number_past w f (i + 1) (omega arith))

pub get_or_third : (x y : ℕ) (zs : List ℕ) (n : ℕ) → 2 ≤ n → get_or (x ∷ y ∷ zs) n 0 ≡ get_or zs (n - 2) 0
get_or_third x y zs n h = let e : n ≡ suc (suc (n - 2)) = omega arith in ap (λ (m : ℕ). get_or (x ∷ y ∷ zs) m 0) e

pub between_above : (low high n : ℕ) → low ≤ n → between low high n ≡ leb n high
between_above low high n h = ap (λ t. t && leb n high) (le-leb low n h)

pub between_in : (low high n : ℕ) → low ≤ n → n ≤ high → between low high n ≡ true
between_in low high n h g = and_from (leb low n) (leb n high) (le-leb low n h) (le-leb n high g)

pub between_out : (low high n : ℕ) → (n < low) ⊎ (high < n) → between low high n ≡ false
between_out low high n (inl h) = and_left (leb low n) (leb n high) (lt-leb low n h)
between_out low high n (inr h) = and_right (leb low n) (leb n high) (lt-leb n high h)

-- the weights from the cell j on, one step on
pub weighted_more : (k : ℕ) (f : List ℕ) (i j : ℕ) → j < k
    → weighted (terms (k - j) f (i + 6 * j)) ≡ (between 1 1000000 (number 4 f (i + 6 * j + 2)) && weighted (terms (k - (j + 1)) f (i + 6 * (j + 1))))
weighted_more k f i j h = at (k - (j + 1)) (omega arith)
  where
    at : (m : ℕ) → k - j ≡ suc m → weighted (terms (k - j) f (i + 6 * j)) ≡ (between 1 1000000 (number 4 f (i + 6 * j + 2)) && weighted (terms m f (i + 6 * (j + 1))))
    at m e = ap (λ n. weighted (terms n f (i + 6 * j))) e
        ∙ ap (λ n. between 1 1000000 (number 4 f (i + 6 * j + 2)) && weighted (terms m f n)) (omega arith)

-- whether all weights keep the limits depends on those from the cell j on: one step on, and at a weight that does not
pub weights_on : (k : ℕ) (f : List ℕ) (i j w : ℕ) (all : Bool) → j < k → w ≡ number 4 f (i + 6 * j + 2) → 1 ≤ w → w ≤ 1000000
    → weighted (terms (k - j) f (i + 6 * j)) ≡ all → weighted (terms (k - (j + 1)) f (i + 6 * (j + 1))) ≡ all
weights_on k f i j w all h e low high from =
    ap (λ (t : Bool). t && weighted (terms (k - (j + 1)) f (i + 6 * (j + 1)))) (sym (between_in 1 1000000 w low high) ∙ ap (λ (n : ℕ). between 1 1000000 n) e)
    ∙ sym (weighted_more k f i j h) ∙ from

pub weights_off : (k : ℕ) (f : List ℕ) (i j w : ℕ) (all : Bool) → j < k → w ≡ number 4 f (i + 6 * j + 2) → (w < 1) ⊎ (1000000 < w)
    → weighted (terms (k - j) f (i + 6 * j)) ≡ all → false ≡ all
weights_off k f i j w all h e out from =
    ap (λ (t : Bool). t && weighted (terms (k - (j + 1)) f (i + 6 * (j + 1)))) (sym (between_out 1 1000000 w out) ∙ ap (λ (n : ℕ). between 1 1000000 n) e)
    ∙ sym (weighted_more k f i j h) ∙ from

-- the limits of a total, from the numbers of its head
abbrev pub total_test : ℕ → ℕ → ℕ → Bool → Bool
total_test k low high w = between 1 64 k && (leb low high && (leb high 10000000000000 && w))

pub total_in : (k f i : ℕ) (w : Bool) → 1 ≤ k → k ≤ 64 → f ≤ i → i ≤ 10000000000000 → total_test k f i w ≡ w
total_in k f i w a b c d = ap (λ (t : Bool). t && (leb f i && (leb i 10000000000000 && w))) (between_in 1 64 k a b)
    ∙ ap (λ (t : Bool). t && (leb i 10000000000000 && w)) (le-leb f i c) ∙ ap (λ (t : Bool). t && w) (le-leb i 10000000000000 d)

pub total_out : (k f i : ℕ) (w : Bool) → (k < 1) ⊎ ((64 < k) ⊎ ((i < f) ⊎ (10000000000000 < i))) → total_test k f i w ≡ false
total_out k f i w (inl h) = and_left (between 1 64 k) _ (between_out 1 64 k (inl h))
total_out k f i w (inr (inl h)) = and_left (between 1 64 k) _ (between_out 1 64 k (inr h))
total_out k f i w (inr (inr (inl h))) = and_right (between 1 64 k) _ (and_left (leb f i) _ (lt-leb f i h))
total_out k f i w (inr (inr (inr h))) = and_right (between 1 64 k) _ (and_right (leb f i) _ (and_left (leb i 10000000000000) w (lt-leb i 10000000000000 h)))

pub total_limits_of : (b : List ℕ) (i k low high at : ℕ) → k ≡ number 2 b i → low ≡ number 8 b (i + 2) → high ≡ number 8 b (i + 10) → at ≡ i + 18
    → total_limits (total_at b i) ≡ total_test k low high (weighted (terms k b at))
total_limits_of b i k low high at d e f g =
    ap (λ (n : ℕ). total_test n (number 8 b (i + 2)) (number 8 b (i + 10)) (weighted (terms (number 2 b i) b (i + 18)))) (length_terms (number 2 b i) b (i + 18))
    ∙ (λ t. total_test (sym d t) (sym e t) (sym f t) (weighted (terms (sym d t) b (sym g t))))
