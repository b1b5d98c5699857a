use Rattle.std.proofs.Common.{arith}
use Rattle.plates.proofs.Adding.{stopped}
use Rattle.plates.proofs.frame.admit.Goals as goal

pub returns-then-with-top : goal.returns-then-with-top
returns-then-with-top c =
    let i = c.loop-k.invariant in
    stopped c.args.top.now c.loop-k.top c.args.count c.args.high c.loop-k.k c.from.result c.from-in-loop-k.result c.requires.room c.from.ensures c.from-in-loop-k.ensures c.requires.concave
    c.loop-k-test.true (omega arith) i.1 i.2 i.3 c.if-with-top.true
