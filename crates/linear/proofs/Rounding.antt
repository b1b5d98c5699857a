-- What division toward zero and its remainder make of division rounded up.
use Rattle.std.proofs.Common.{◌≡◌, ℕ, suc, ◌+◌, ◌-◌, ◌*◌, ◌/◌, ◌<◌, ◌≤◌, ℤ, pos, negsuc, ◌+ℤ◌, ◌≤ℤ◌, ◌<ℤ◌, ap, inl, inr, mul-le-mul_right, div-add-mod', arith}
use borrow.Author.Differences.{ints, up, down, at_most_in, quot_is}
use lib.Signed.{quot_z, rem_z}
use Rattle.std.proofs.lemmas.Bool.{cases_lt}
use Rattle.std.proofs.lemmas.Nat.{mod_below}
use Rattle.linear.specs.Linear.{over}
use Rattle.linear.proofs.Quotients.{over_weighs, over_least}
use Rattle.linear.specs.Division.{RoundedUp}

cancel : (m n d : ℕ) → m * d < n * d + d → m ≤ n
cancel m n d h = elim (cases_lt n m) [ inl l ↦ absurd (omega (arith, mul-le-mul_right d l)) | inr l ↦ l ]

-- with no remainder above zero, division toward zero is rounded up as it stands
pub rounded_as_is : (a : ℤ) (d : ℕ) → 0 < d → rem_z a (pos d) ≤ℤ pos 0 → RoundedUp a (pos d) (quot_z a (pos d))
rounded_as_is (pos n) d p r =
    let split = div-add-mod' n d in
    record {
      reaches = at_most_in _ _ (omega (arith, ints));
      least = λ k h. at_most_in _ _ (omega (arith, cancel (n / d + down k) (up k) d (omega (arith, ints))));
    }
rounded_as_is (negsuc n) d p r =
    let split = div-add-mod' (suc n) d in
    let rest = mod_below (suc n) d p in
    let whole = ap (λ x. x * d) (quot_is (negsuc n) d).1 in
    record {
      reaches = at_most_in _ _ (omega (arith, ints));
      least = λ k h. at_most_in _ _ (omega (arith, ints, cancel (down k) (up k + suc n / d) d (omega (arith, ints))));
    }

pub rounded_over : (a : ℤ) (d : ℕ) → 0 < d → pos 0 <ℤ rem_z a (pos d) → RoundedUp a (pos d) (quot_z a (pos d) +ℤ pos 1)
rounded_over (pos n) d p r =
    let split = div-add-mod' n d in
    let rest = mod_below n d p in
    record {
      reaches = at_most_in _ _ (omega (arith, ints));
      least = λ k h. at_most_in _ _ (omega (arith, ints, cancel (n / d + 1 + down k) (up k) d (omega (arith, ints))));
    }
rounded_over (negsuc n) d p r = absurd (omega (arith, ints))

-- of a difference of naturals, and 0 in place of a quotient below zero
pub rounded_difference : (m n w : ℕ) (a q : ℤ) → 0 < w → up a + n ≡ m + down a → RoundedUp a (pos w) q → up q - down q ≡ over (m - n) w
rounded_difference m n w a (pos k) p e r =
    let enough = over_weighs (m - n) w p in
    let reaches : m ≤ w * k + n = omega (arith, ints, r.reaches) in
    let top = over_least (m - n) w k p (omega arith) in
    let bottom = r.least (pos (over (m - n) w)) (at_most_in _ _ (omega (arith, ints))) in
    omega (arith, ints)
rounded_difference m n w a (negsuc k) p e r = omega (arith, over_least (m - n) w 0 p (omega (arith, ints, r.reaches)))
