use Rattle.std.proofs.Common.{◌≡◌, ◌+◌, List, ℕ, ap, arith}
use Rattle.records.specs.Bytes.{number}
use Rattle.records.proofs.Fields.{weights_on, weight_off, weight_on}
use Rattle.records.proofs.totals.weights.whole_weights_keep.Goals as goal

here : (f : List ℕ) (p : ℕ) → number 2 f (p + 0) ≡ number 2 f p
here f p = let e : p + 0 ≡ p = omega arith in ap (number 2 f) e

pub returns-then-not-is_weight : goal.returns-then-not-is_weight
returns-then-not-is_weight c =
    weight_off c.args.at.bytes.now c.args.at.place c.loop-i.i c.u32_inside.result c.is_weight.result (omega (arith, here c.args.at.bytes.now c.args.at.place)) c.u32_inside.ensures c.is_weight.ensures
    c.if-not-is_weight.true

pub loop-i-preserved : goal.loop-i-preserved
loop-i-preserved c =
    weight_on c.args.at.bytes.now c.args.at.place c.loop-i.i c.u32_inside.result c.is_weight.result (omega (arith, here c.args.at.bytes.now c.args.at.place)) c.u32_inside.ensures c.is_weight.ensures
    c.if-not-is_weight.false c.loop-i.invariant

pub returns : goal.returns
returns c = weights_on c.args.at.bytes.now c.args.at.place c.loop-i.i (omega (arith, here c.args.at.bytes.now c.args.at.place)) c.loop-i.invariant
