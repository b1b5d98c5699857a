use Rattle.std.proofs.Common.{arith}
use Rattle.rule_sets.proofs.Bits.{lowest_of}
use Rattle.rule_sets.proofs.rule_set.lowest_bit.Goals as goal

pub returns : goal.returns
returns c = lowest_of c.args.word (omega arith) (omega arith)
