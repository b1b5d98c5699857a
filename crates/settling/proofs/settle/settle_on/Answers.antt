use Rattle.std.proofs.Common.{arith}
use Rattle.settling.proofs.Asks.{settles_fits, voids_fits}
use Rattle.settling.proofs.settle.settle_on.Goals as goal

pub overflow_add-result : goal.overflow_add-result
overflow_add-result g c =
    let n = settles_fits _ (g.F.Family.lawful c.args.family.now) _ _ c.requires.sound c.in-Settled.applied c.in-Settled.ensures in
    omega (arith, n, c.width-most.ensures.is, c.width-most.ensures.few)

pub overflow_add-result-in-Void : goal.overflow_add-result-in-Void
overflow_add-result-in-Void g c =
    let n = voids_fits _ (g.F.Family.lawful c.args.family.now) _ _ c.requires.sound c.in-Void.applied c.in-Void.ensures in
    omega (arith, n, c.width-most.ensures.is, c.width-most.ensures.few)
