use Rattle.std.proofs.Common.{rules, ◌≡◌, ℕ, ◌+◌, ◌*◌, ap, ◌∙◌, arith}
use Rattle.std.proofs.lemmas.List.{length-replicate}
use Rattle.std.proofs.lemmas.Result.{err_from_is_err_and}
use Rattle.records.specs.Refusals.{of_record}
use Rattle.job.specs.Contents.{entry_at}
use Rattle.job.specs.Reading.{refused, body}
use Rattle.job.specs.Tallies.{no_tally}
use Rattle.job.proofs.Cells.{job_cells}
use Rattle.job.proofs.Gathering.{gathers, placed, gathers_on, gathers_off, gathered, read_bodies}
use Rattle.job.proofs.job.Job.scan.Goals as goal

pub loop-entry-init : goal.loop-entry-init
loop-entry-init c =
    let tally : c.default-tally.result ≡ no_tally = search rules in
    let (file, given, count) = c.entries-entry-items.ensures in rw c.into_iter-entry-iterator.ensures.into_iter_gives (
      file ∙ c.in_ok-contents.ensures.1,
      rw (tally, given, count) (gathers c.args.file.now c.in_ok-contents.contents.count _ c.in_ok-contents.ensures.2 (length-replicate {A = ℕ} 1024 0) c.in_ok-contents.ensures.0),
    )

pub of-body-requires : goal.of-body-requires
of-body-requires c =
    let (more, place, entry, file, given, count) = c.in-Some.ensures.steps in
    let (same, g) = c.loop-entry.invariant in
    let p = placed _ _ _ _ _ _ g more (entry ∙ ap (λ f. entry_at f (1 + 9 * c.loop-entry.entry-iterator.numbers.start)) same) in
    rw c.in_ok-contents.ensures.1 p.inside

pub returns-in_err-end : goal.returns-in_err-end
returns-in_err-end c =
    let q = err_from_is_err_and c.from_residual-in_err-end.result c.from_residual-in_err-end.ensures.1 in
    let (more, place, entry, file, given, count) = c.in-Some.ensures.steps in
    let (same, g) = c.loop-entry.invariant in
    let x = c.of-body.ensures in rw (q.1, q.2)
    (read_bodies c.args.file.now (refused (of_record c.in_err-end.field-0.0)) c.in_ok-contents.ensures.0
    (gathers_off _ _ _ _ _ _ _ _ _ g more (entry ∙ ap (λ f. entry_at f (1 + 9 * c.loop-entry.entry-iterator.numbers.start)) same)
    x.kind (x.bytes ∙ ap (λ f. body f c.in-Some.entry) c.in_ok-contents.ensures.1) c.in_err-end.ensures))

pub loop-entry-preserved : goal.loop-entry-preserved
loop-entry-preserved c =
    let (more, place, entry, file, given, count) = c.in-Some.ensures.steps in
    let (same, g) = c.loop-entry.invariant in
    let x = c.of-body.ensures in (
      ap (λ f. f.now) file ∙ same,
      rw (c.with-tally.ensures, given, count)
          (gathers_on _ _ _ _ _ _ _ _ _ c.in_ok-end.end g more (entry ∙ ap (λ f. entry_at f (1 + 9 * c.loop-entry.entry-iterator.numbers.start)) same)
          x.kind (x.bytes ∙ ap (λ f. body f c.in-Some.entry) c.in_ok-contents.ensures.1) c.type_inv.places c.in_ok-end.ensures),
    )

pub invariant_of-result : goal.invariant_of-result
invariant_of-result c =
    let (same, g) = c.loop-entry.invariant in
    let all = gathered _ _ _ _ _ g (omega (arith, c.in-None.ensures)) in
    let (some, few, ordered) = job_cells c.args.file.now _ _ (read_bodies c.args.file.now _ c.in_ok-contents.ensures.0 all) in
    record {
      short = search rules;
      plates_first = g.fresh.plates_first;
      totals_last = g.fresh.totals_last;
      few = g.few;
      some_cells = some;
      few_cells = few;
      sound_cells = ordered;
    }
