-- The largest sum of at most k highs.
use Rattle.std.proofs.Common.{◌≡◌, ℕ, zero, suc, ◌+◌, ◌≤◌, List, [], ◌∷◌, sym, refl, ◌∙◌, arith}
use Rattle.bounds.specs.declared.row.Row.{Row}
use Rattle.plates.specs.Form.{optional, better, top}

abbrev pub row : ℕ → ℕ → Row
row l h = record { low = l; high = h }

pub top_zero : (cs : List Row) → top cs 0 ≡ 0
top_zero [] = refl
top_zero (r ∷ cs) = refl

better_up : (l h : ℕ) {a b c d : ℕ} → a ≤ c → b ≤ d → better l h a b ≤ better l h c d
better_up zero h p q = omega arith
better_up (suc l) h p q = p

better_leaves : (l h a b : ℕ) → a ≤ better l h a b
better_leaves zero h a b = omega arith
better_leaves (suc l) h a b = omega arith

pub top_mono : (cs : List Row) (j k : ℕ) → j ≤ k → top cs j ≤ top cs k
top_mono [] j k p = omega arith
top_mono (r ∷ cs) zero k p = omega arith
top_mono (r ∷ cs) (suc j) zero p = absurd (omega arith)
top_mono (r ∷ cs) (suc j) (suc k) p = better_up r.low r.high (top_mono cs (suc j) (suc k) p) (top_mono cs j k (omega arith))

pub top_up : (cs : List Row) (k : ℕ) → top cs k ≤ top cs (suc k)
top_up cs k = top_mono cs k (suc k) (omega arith)

pub top_leaves : (r : Row) (cs : List Row) (k : ℕ) → top cs k ≤ top (r ∷ cs) k
top_leaves r cs zero = omega (arith, top_zero cs)
top_leaves r cs (suc k) = better_leaves r.low r.high _ _

pub top_certain : (l h : ℕ) (cs : List Row) (k : ℕ) → top (row (suc l) h ∷ cs) k ≡ top cs k
top_certain l h cs zero = sym (top_zero cs)
top_certain l h cs (suc k) = refl

pub top_absent : (cs : List Row) (k : ℕ) → top (row 0 0 ∷ cs) k ≡ top cs k
top_absent cs zero = sym (top_zero cs)
top_absent cs (suc k) = omega (arith, top_up cs k)

full_step : (l h : ℕ) (cs : List Row) → ((k : ℕ) → optional cs ≤ k → top cs (suc k) ≡ top cs k)
    → (k : ℕ) → optional (row l h ∷ cs) ≤ k → top (row l h ∷ cs) (suc k) ≡ top (row l h ∷ cs) k
full_step zero zero cs ih k p = top_absent cs (suc k) ∙ ih k (omega arith) ∙ sym (top_absent cs k)
full_step zero (suc h) cs ih zero p = omega arith
full_step zero (suc h) cs ih (suc k) p = omega (arith, ih k (omega arith), ih (suc k) (omega arith))
full_step (suc l) h cs ih k p = top_certain l h cs (suc k) ∙ ih k (omega arith) ∙ sym (top_certain l h cs k)

-- with every optional count taken, no more is to be had
pub top_full : (cs : List Row) (k : ℕ) → optional cs ≤ k → top cs (suc k) ≡ top cs k
top_full [] k p = refl
top_full (r ∷ cs) k p = full_step r.low r.high cs (top_full cs) k p

concave_step : (l h : ℕ) (cs : List Row) → ((k : ℕ) → top cs k + top cs (suc (suc k)) ≤ top cs (suc k) + top cs (suc k))
    → (k : ℕ) → let f = top (row l h ∷ cs) in f k + f (suc (suc k)) ≤ f (suc k) + f (suc k)
concave_step zero h cs ih zero = omega (arith, ih 0, top_zero cs)
concave_step zero h cs ih (suc k) = omega (arith, ih k, ih (suc k))
concave_step (suc l) h cs ih k = omega (arith, ih k, top_certain l h cs k)

-- each count more adds no more than the one before
pub top_concave : (cs : List Row) (k : ℕ) → top cs k + top cs (suc (suc k)) ≤ top cs (suc k) + top cs (suc k)
top_concave [] k = omega arith
top_concave (r ∷ cs) k = concave_step r.low r.high cs (top_concave cs) k

better_swap : (l h m i a b c : ℕ) → better l h (better m i a b) (better m i b c) ≡ better m i (better l h a b) (better l h b c)
better_swap zero h zero i a b c = omega arith
better_swap zero h (suc m) i a b c = refl
better_swap (suc l) h zero i a b c = refl
better_swap (suc l) h (suc m) i a b c = refl

better_swap_one : (l h m i a b : ℕ) → b ≡ 0 → better l h (better m i a b) 0 ≡ better m i (better l h a b) 0
better_swap_one zero h zero i a b e = omega arith
better_swap_one zero h (suc m) i a b e = omega arith
better_swap_one (suc l) h zero i a b e = omega arith
better_swap_one (suc l) h (suc m) i a b e = refl

pub top_swap : (r s : Row) (cs : List Row) (k : ℕ) → top (r ∷ (s ∷ cs)) k ≡ top (s ∷ (r ∷ cs)) k
top_swap r s cs zero = refl
top_swap r s cs (suc zero) = better_swap_one r.low r.high s.low s.high _ _ (top_zero cs)
top_swap r s cs (suc (suc k)) = better_swap r.low r.high s.low s.high _ _ _

better_same : (l h : ℕ) {a b c d : ℕ} → a ≡ b → c ≡ d → better l h a c ≡ better l h b d
better_same l h p q = λ i. better l h (p i) (q i)

pub top_same : (r : Row) (cs ds : List Row) → ((k : ℕ) → top cs k ≡ top ds k) → (k : ℕ) → top (r ∷ cs) k ≡ top (r ∷ ds) k
top_same r cs ds e zero = refl
top_same r cs ds e (suc k) = better_same r.low r.high (e (suc k)) (e k)
