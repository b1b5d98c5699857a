-- Rules name few cells.
use Rattle.std.proofs.Common.{ℕ, ◌≤◌, Bool, cond, ◌&&◌, leb, List, [], ◌∷◌, length, arith}
use Rattle.std.proofs.lemmas.Bool.{cond_both, leb-true, and_parts}

-- two cells and 64 more at most, or none
pub two_and_64 : (b : Bool) (x y : ℕ) (cs : List ℕ) → length (cond (b && leb (length cs) 64) (x ∷ (y ∷ cs)) []) ≤ 66
two_and_64 b x y cs = cond_both (b && leb (length cs) 64) (x ∷ (y ∷ cs)) [] (λ (z : List ℕ). length z ≤ 66)
    (λ e. let l : length cs ≤ 64 = leb-true (length cs) 64 (and_parts b _ e).1 in omega arith) (λ _. omega arith)
