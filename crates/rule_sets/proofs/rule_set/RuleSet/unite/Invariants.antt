use Rattle.rule_sets.proofs.Bits.{Joined}
use Rattle.rule_sets.proofs.rule_set.RuleSet.unite.Given as goal

abbrev pub invariant-loop-word : goal.invariant-loop-word
invariant-loop-word l = Joined l.initial.self l.other l.word l.self
