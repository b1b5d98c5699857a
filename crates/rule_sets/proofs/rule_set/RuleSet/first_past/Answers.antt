use Rattle.std.proofs.Common.{◌+◌, get_or, sym, ◌∙◌, subst, arith}
use Rattle.std.proofs.lemmas.Nat.{trailing_le}
use Rattle.rule_sets.specs.Members.{Lowest}
use Rattle.rule_sets.proofs.Bits.{past_fits, past_some, past_none}
use Rattle.rule_sets.proofs.rule_set.RuleSet.first_past.Goals as goal

pub overflow_add-word : goal.overflow_add-word
overflow_add-word c = let l = past_fits c.args.self.now c.args.passed c.args.words (omega arith) c.requires.words.0 c.requires.passed c.in_ok-more.more (sym c.in_ok-more.ensures) in omega (arith, l)

pub overflow_add-result : goal.overflow_add-result
overflow_add-result c =
    let l = past_fits c.args.self.now c.args.passed c.args.words (omega arith) c.requires.words.0 c.requires.passed c.in_ok-more.more (sym c.in_ok-more.ensures) in
    omega (arith, l, trailing_le 64 (get_or c.args.self.now.words (c.args.passed + c.in_ok-more.more) 0))

pub returns : goal.returns
returns c = past_some c.args.self.now c.args.passed c.args.words (omega arith) c.requires.words.0 c.requires.passed c.in_ok-more.more (omega arith) (sym c.in_ok-more.ensures)

pub returns-in_err-more : goal.returns-in_err-more
returns-in_err-more c =
    subst (λ o. Lowest c.args.self.now c.args.words o) (sym c.from_residual.ensures)
    (past_none c.args.self.now c.args.passed c.args.words (omega arith) c.requires.words.0 c.requires.passed (sym c.first_with_rules.ensures ∙ c.in_err-more.was))
