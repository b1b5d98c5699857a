use Rattle.std.proofs.Common.{take}
use Rattle.rule_families.specs.Marks.{MarksNamed}
use Rattle.rules.proofs.named.mark_named.Given as goal

abbrev pub invariant-loop-i : goal.invariant-loop-i
invariant-loop-i g l = MarksNamed (take l.i (g.R.Scope.scope l.rule)) l.initial.marks l.marks
