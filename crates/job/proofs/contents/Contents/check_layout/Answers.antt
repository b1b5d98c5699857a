use Rattle.std.proofs.Common.{◌+◌, ◌*◌, eqb, length, Some, sym, ap, ◌∙◌, arith}
use Rattle.records.specs.Refusals.{line}
use Rattle.job.specs.Contents.{entry_at}
use Rattle.job.proofs.Listings.{laid_on, laid_off}
use Rattle.job.proofs.contents.Contents.check_layout.Goals as goal

pub returns-then-not-follows : goal.returns-then-not-follows
returns-then-not-follows c =
    let (more, place, entry, file, given, count) = c.in-Some.ensures.steps in
    let (all, same, from) = c.loop-place.invariant in
    let f = c.args.self.file.bytes.now in
    let i = c.loop-place.place-iterator.numbers.start in
    laid_off f c.args.self.count i (length f) c.loop-place.start c.in-Some.entry _ _ (omega arith) (entry ∙ ap (λ g. entry_at g (1 + 9 * i)) same) (ap (λ p. eqb (p + 9) (1 + 9 * c.args.self.count)) place)
    from (sym c.follows.ensures ∙ c.if-not-follows.true) ∙ ap (λ p. Some (line 4 0 p)) (sym place)

pub loop-place-preserved : goal.loop-place-preserved
loop-place-preserved c =
    let (more, place, entry, file, given, count) = c.in-Some.ensures.steps in
    let (all, same, from) = c.loop-place.invariant in
    let f = c.args.self.file.bytes.now in
    let i = c.loop-place.place-iterator.numbers.start in (
      count ∙ all,
      ap (λ g. g.now) file ∙ same,
      rw (given, c.end-start.ensures) (laid_on f c.args.self.count i (length f) c.loop-place.start c.in-Some.entry _ _ (omega arith) (entry ∙ ap (λ g. entry_at g (1 + 9 * i)) same) (ap (λ p. eqb (p + 9) (1 + 9 * c.args.self.count)) place)
          from (sym c.follows.ensures ∙ c.if-not-follows.false)),
    )
