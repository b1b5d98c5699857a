use Rattle.std.proofs.Common.{◌≡◌, ℕ, ◌-◌, cond, ℤ, pos, arith, w64, to_z, of_z}
use borrow.Author.Differences.{ints, up, down}
use lib.Signed.{lt_z}
use Rattle.std.proofs.lemmas.Bool.{cond_both}
use Rattle.std.proofs.lemmas.Int.{clamps}
use Rattle.linear.proofs.Rounding.{rounded_difference}
use Rattle.linear.proofs.limits.needed.Goals as goal

cut : (n : ℕ) (q : ℤ) → pos n ≡ cond (lt_z q (pos 0)) (pos 0) q → n ≡ up q - down q
cut n q = cond_both (lt_z q (pos 0)) (pos 0) q (λ (z : ℤ). pos n ≡ z → n ≡ up q - down q) (λ t e. omega (arith, ints)) (λ t e. omega (arith, ints))

pub returns : goal.returns
returns c =
    let same = rounded_difference c.args.floor c.args.others c.args.weight _ c.div_up.result c.requires.weight (omega (arith, ints)) c.div_up.ensures in
    let none = cut c.not_below_zero.result (to_z w64 (of_z w64 c.div_up.result)) c.not_below_zero.ensures in
    omega (arith, ints, clamps)
