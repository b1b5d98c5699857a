use Rattle.std.proofs.Common.{eqb, ◌∙◌, arith}
use Rattle.settling.proofs.Words.{words_tested}
use Rattle.settling.proofs.settle.stays.Goals as goal

pub returns : goal.returns
returns c = (λ i. eqb (c.word.ensures i) (c.word-2.ensures i)) ∙ words_tested c.args.a.low c.args.a.high c.args.b.low c.args.b.high (omega arith) (omega arith)
