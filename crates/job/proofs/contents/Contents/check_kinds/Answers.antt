use Rattle.std.proofs.Common.{rules, ◌≡◌, ◌+◌, ◌*◌, Some, sym, ap, ◌∙◌, arith}
use Rattle.std.specs.Range.{range_inclusive_start, range_inclusive_end}
use Rattle.records.specs.Refusals.{line}
use Rattle.records.specs.Forms.{between}
use Rattle.job.specs.Contents.{entry_at}
use Rattle.job.proofs.Listings.{kind_on, kind_off}
use Rattle.job.proofs.contents.Contents.check_kinds.Goals as goal

pub returns-then-not-contains : goal.returns-then-not-contains
returns-then-not-contains c =
    let (more, place, entry, file, given, count) = c.in-Some.ensures.steps in
    let (new, four, all, same, from) = c.loop-place.invariant in
    let i = c.loop-place.place-iterator.numbers.start in
    let due : between (range_inclusive_start c.loop-place.due) (range_inclusive_end c.loop-place.due) c.in-Some.entry.kind ≡ c.contains.result = search rules in
    kind_off c.args.self.file.bytes.now c.args.self.count i _ _ c.in-Some.entry _ (omega arith)
    (entry ∙ ap (λ f. entry_at f (1 + 9 * i)) same) (due ∙ c.if-not-contains.true) from
    ∙ ap (λ p. Some (line 3 0 p)) (sym place)

pub loop-place-preserved : goal.loop-place-preserved
loop-place-preserved c =
    let (more, place, entry, file, given, count) = c.in-Some.ensures.steps in
    let (new, four, all, same, from) = c.loop-place.invariant in
    let i = c.loop-place.place-iterator.numbers.start in
    let due : between (range_inclusive_start c.loop-place.due) (range_inclusive_end c.loop-place.due) c.in-Some.entry.kind ≡ c.contains.result = search rules in
    let later = c.later_kinds-due.ensures in (
      later.2,
      omega (arith, later.1),
      count ∙ all,
      ap (λ f. f.now) file ∙ same,
      rw (given, later.0, later.1) (kind_on c.args.self.file.bytes.now c.args.self.count i _ _ c.in-Some.entry _ (omega arith)
          (entry ∙ ap (λ f. entry_at f (1 + 9 * i)) same) (due ∙ c.if-not-contains.false) from),
    )
