use Rattle.std.proofs.Common.{◌+◌, arith}
use Rattle.records.specs.Bytes.{number}
use Rattle.records.proofs.Fields.{length_terms}
use Rattle.totals.proofs.total.Total.weight.Goals as goal

pub u32_inside-requires : goal.u32_inside-requires
u32_inside-requires c =
    let spot = c.args.self.spot in
    let count = length_terms (number 2 spot.bytes.now spot.place) spot.bytes.now (spot.place + 18) in
    omega (arith, c.args.self.ends c.if-self.true, count)
