use Rattle.std.proofs.Common.{◌≡◌, ℕ, ◌/◌, ◌^◌, ◌<◌, ◌≤◌, true, false, cond, ℤ, pos, negsuc, ◌+ℤ◌, ◌≤ℤ◌, ◌<ℤ◌, sym, ap, ◌∙◌, subst, ap₂, mul-le-mul_left, div-le_self, div-mul-le_self, arith, w64, SFits, to_z, of_z}
use borrow.Author.Differences.{ints, up, down}
use lib.Signed.{quot_z, rem_z, lt_z}
use Rattle.std.proofs.lemmas.Bool.{cond_both}
use Rattle.std.proofs.lemmas.Int.{to_z-of_z}
use Rattle.std.proofs.lemmas.Nat.{mod_below}
use Rattle.linear.specs.Division.{RoundedUp}
use Rattle.linear.proofs.Rounding.{rounded_as_is, rounded_over}
use Rattle.linear.proofs.division.div_up.Goals as goal

abbrev read : ℤ → ℤ
read z = to_z w64 (of_z w64 z)

-- a remainder above zero leaves the quotient room for one more
more-fits : (a : ℤ) (d : ℕ) → SFits w64 a → 0 < d → pos 0 <ℤ rem_z a (pos d) → SFits w64 (quot_z a (pos d) +ℤ pos 1)
more-fits (pos n) d fits some r =
    let rest = mod_below n d some in
    let two : 2 ≤ d = omega (arith, ints) in
    let half = mul-le-mul_left (n / d) two in
    omega (arith, ints, div-mul-le_self n d)
more-fits (negsuc n) d fits some r = absurd (omega (arith, ints))

module _ (a e : ℤ) (d : ℕ) (fits : SFits w64 a) (small : d < 2 ^ 32) (some : 0 < d) (is : e ≡ pos d) where
  divisor : read e ≡ pos d
  divisor = to_z-of_z w64 e (omega (arith, ints)) ∙ is

  quotient_fits : SFits w64 (quot_z a (pos d))
  quotient_fits = omega (arith, ints, div-le_self (up a) d, div-le_self (down a) d)

  quotient : read (quot_z (read a) (read e)) ≡ quot_z a (pos d)
  quotient = ap read (ap₂ quot_z (to_z-of_z w64 a fits) divisor) ∙ to_z-of_z w64 _ quotient_fits

  remainder : read (rem_z (read a) (read e)) ≡ rem_z a (pos d)
  remainder = ap read (ap₂ rem_z (to_z-of_z w64 a fits) divisor) ∙ to_z-of_z w64 _ (omega (arith, ints))

  positive : lt_z (pos 0) (read (rem_z (read a) (read e))) ≡ true → pos 0 <ℤ rem_z a (pos d)
  positive t = let e = remainder in omega (arith, ints)

  rest-none : lt_z (pos 0) (read (rem_z (read a) (read e))) ≡ false → rem_z a (pos d) ≤ℤ pos 0
  rest-none t = let e = remainder in omega (arith, ints)

  fits-more : lt_z (pos 0) (read (rem_z (read a) (read e))) ≡ true → read (quot_z (read a) (read e)) <ℤ pos 9223372036854775807
  fits-more t = let r = positive t in let q = quotient in let m = more-fits a d fits some r in rw q (omega (arith, ints, m))

  rounded-up : (z : ℤ) → z ≡ cond (lt_z (pos 0) (read (rem_z (read a) (read e)))) (read (quot_z (read a) (read e)) +ℤ pos 1) (read (quot_z (read a) (read e))) → RoundedUp a (pos d) (read z)
  rounded-up z = cond_both (lt_z (pos 0) (read (rem_z (read a) (read e)))) _ _ (λ (y : ℤ). z ≡ y → RoundedUp a (pos d) (read z))
      (λ t k. let r = positive t in let up = k ∙ ap (λ (y : ℤ). y +ℤ pos 1) quotient in
      subst (λ (y : ℤ). RoundedUp a (pos d) y) (sym (ap read up ∙ to_z-of_z w64 _ (more-fits a d fits some r))) (rounded_over a d some r))
      (λ t k. subst (λ (y : ℤ). RoundedUp a (pos d) y) (sym (ap read (k ∙ quotient) ∙ to_z-of_z w64 _ quotient_fits)) (rounded_as_is a d some (rest-none t)))

pub rounded-requires : goal.rounded-requires
rounded-requires c =
    let at : c.args.divisor < 2 ^ 32 = omega arith in
    fits-more _ _ _ c.ranges.dividend at c.requires c.from-divisor.ensures

pub returns : goal.returns
returns c =
    let at : c.args.divisor < 2 ^ 32 = omega arith in
    rounded-up _ _ _ c.ranges.dividend at c.requires c.from-divisor.ensures _ c.rounded.ensures
