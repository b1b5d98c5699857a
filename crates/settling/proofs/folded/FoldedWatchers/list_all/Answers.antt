use Rattle.std.proofs.Common.{arith}
use Rattle.settling.proofs.Folds.{none_folded_yet, all_folded}
use Rattle.settling.proofs.folded.FoldedWatchers.list_all.Goals as goal

pub loop-rule-init : goal.loop-rule-init
loop-rule-init g c = none_folded_yet _ _ _ c.requires.none

pub returns : goal.returns
returns g c = all_folded _ _ _ _ (omega (arith, c.loop-rule.auto.rule-end, c.size-rule-end.ensures, c.loop-rule-test.false)) c.loop-rule.invariant
