use Rattle.rule_sets.proofs.Bits.{with_bit}
use Rattle.rule_sets.proofs.rule_set.with_bit.Goals as goal

pub returns : goal.returns
returns c = with_bit c.args.word c.args.bit c.requires
