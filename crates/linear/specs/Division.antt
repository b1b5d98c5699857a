-- Division of integers, rounded up.
use Rattle.std.specs.Prelude.{ℤ, ◌*ℤ◌, ◌≤ℤ◌}

-- q is the least integer whose product with d reaches a
pub record RoundedUp (a d q : ℤ) : Type 0 where
  pub reaches : a ≤ℤ (q *ℤ d)
  pub least : (k : ℤ) → a ≤ℤ (k *ℤ d) → q ≤ℤ k
