use Rattle.rule_sets.proofs.Bits.{without_bit}
use Rattle.rule_sets.proofs.rule_set.without_bit.Goals as goal

pub returns : goal.returns
returns c = without_bit c.args.word c.args.bit c.requires
