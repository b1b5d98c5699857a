use Rattle.std.proofs.Common.{arith}
use Rattle.settling.proofs.Wakes.{more_below, more_taken, taken_all}
use Rattle.settling.proofs.settle.wake.Goals as goal

pub loop-first-preserved : goal.loop-first-preserved
loop-first-preserved g c =
    let (whole, woken, taken) = c.loop-first.invariant in
    let w = c.args.watchers.now in (
      omega (arith, whole),
      more_below w _ _ c.loop-first.first _ taken _ _ _ woken c.wake_64.ensures.woken,
      more_taken w _ _ c.loop-first.first _ taken _ c.wake_64.ensures.before,
    )

pub returns-clause-before : goal.returns-clause-before
returns-clause-before g c = taken_all c.args.watchers.now _ _ _ (omega (arith, c.loop-first-test.false)) _ c.requires.before c.loop-first.invariant.2
