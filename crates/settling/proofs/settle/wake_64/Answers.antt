use Rattle.std.proofs.Common.{◌+◌, List, sym, subst, arith}
use Rattle.bounds.specs.declared.row.Row.{Row}
use Rattle.rule_sets.specs.declared.rule_set.RuleSet.{RuleSet}
use Rattle.settling.specs.Asleep.{WokenAmong, Taken}
use Rattle.settling.proofs.Wakes.{Done, step, woken_one, taken_one, passed, row_passed}
use Rattle.settling.proofs.settle.wake_64.Goals as goal
use Rattle.settling.proofs.settle.wake_64.Goals.{then-cell-rows, else-cell-rows}

pub loop-bit-preserved : goal.loop-bit-preserved
loop-bit-preserved g c =
    let w = c.args.watchers.now in
    let a = c.args.before.now in
    let b = c.args.rows.now in
    let cell = c.args.first + c.in-Some.bit in
    let P = Done c.args.first c.loop-bit.left in
    let P' = Done c.args.first c.without_bit-left.result in
    let more = step c.args.first c.loop-bit.left c.in-Some.bit c.without_bit-left.result c.requires.first.0 c.in-Some.ensures.1 c.in-Some.ensures.0
    c.without_bit-left.ensures in
    let (woken, taken) = c.loop-bit.invariant in
    let Kept : RuleSet → List Row → Type 0 = λ p r. WokenAmong w P' a b c.args.pending.now p × Taken P' a b r in
    elim c.if-cell-rows.branch [
      | then-cell-rows v ↦
          subst (λ p. Kept p c.if-cell-rows.before) (sym v.pending-is) (subst (Kept v.wake_at.new.pending) (sym v.before-is)
          (woken_one w a b P P' cell more _ taken _ _ _ woken v.wake_at.ensures.woken, taken_one w a b P P' cell more _ taken _ v.wake_at.ensures.before))
      | else-cell-rows v ↦
          subst (λ p. Kept p c.if-cell-rows.before) (sym v.pending-is) (subst (Kept c.loop-bit.pending) (sym v.before-is)
          (passed w a b P P' cell more (omega (arith, v.if-cell-rows.false)) _ _ woken, row_passed w a b P P' cell more (omega (arith, v.if-cell-rows.false)) _ taken))
    ]
