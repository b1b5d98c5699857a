use Rattle.std.proofs.Common.{ap, ◌∙◌, subst}
use Rattle.std.specs.Str.Iter.{split_whitespace_rest}
use Rattle.desk.specs.Lines.{Words, Says}
use Rattle.desk.proofs.Firsts.{says_all}
use Rattle.desk.proofs.lines.Line.read.Goals as goal

pub returns : goal.returns
returns c = (
  c.loop-word.yielded,
  (
    c.into_iter-word-iterator.result,
    ap split_whitespace_rest c.into_iter-word-iterator.ensures.into_iter_gives ∙ c.split_whitespace-word-items.ensures.rest,
    (c.loop-word.word-iterator, c.loop-word.yielded_by, λ _. (c.next.new.self, c.in-None.ensures.steps)),
  ),
  says_all c.loop-word.yielded c.said.result (subst (λ (ws : Words). Says ws c.said.result) c.loop-word.invariant.kept c.said.ensures),
)
