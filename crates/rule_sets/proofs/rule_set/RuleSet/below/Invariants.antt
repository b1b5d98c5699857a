use Rattle.rule_sets.specs.Members.{Below}
use Rattle.rule_sets.proofs.rule_set.RuleSet.below.Given as goal

abbrev pub invariant-loop-rule : goal.invariant-loop-rule
invariant-loop-rule l = Below l.rule l.set
