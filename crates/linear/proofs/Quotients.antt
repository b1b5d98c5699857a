-- Quotients of naturals, rounded down and up.
use Rattle.std.proofs.Common.{ℕ, ◌+◌, ◌-◌, ◌*◌, ◌/◌, ◌<◌, ◌≤◌, div-mul-le_self, arith}
use native.Mathlib.Nat.{lt-div-mul-add}
use Rattle.std.proofs.lemmas.Nat.{le-div, div_below}
use Rattle.linear.specs.Linear.{over}

-- n / w is the greatest count that weighs at most n
pub div_weighs : (n w : ℕ) → w * (n / w) ≤ n
div_weighs n w = omega (arith, div-mul-le_self n w)

pub div_greatest : (n w k : ℕ) → 0 < w → w * k ≤ n → k ≤ n / w
div_greatest n w k p h = le-div k n w p (omega arith)

pub div_mono : (m n w : ℕ) → 0 < w → m ≤ n → m / w ≤ n / w
div_mono m n w p h = div_greatest n w (m / w) p (omega (arith, div_weighs m w))

-- over n w is the least that weighs at least n
pub over_weighs : (n w : ℕ) → 0 < w → n ≤ w * over n w
over_weighs n w p = omega (arith, lt-div-mul-add {a = n + (w - 1)} {b = w} p)

pub over_least : (n w k : ℕ) → 0 < w → n ≤ w * k → over n w ≤ k
over_least n w k p h = omega (arith, div_below (n + (w - 1)) w (k + 1) p (omega arith))

pub over_mono : (m n w : ℕ) → 0 < w → m ≤ n → over m w ≤ over n w
over_mono m n w p h = over_least m w (over n w) p (omega (arith, over_weighs n w p))
