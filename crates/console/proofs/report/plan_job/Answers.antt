use Rattle.std.proofs.Common.{rules, refl, sym, ap, ◌∙◌, inr}
use Rattle.std.proofs.lemmas.List.{with_items_is}
use Rattle.boards.specs.Opening.{no_room}
use Rattle.job.specs.Jobs.{job_found}
use Rattle.console.proofs.Planning.{lacking, both, planned}
use Rattle.console.proofs.report.plan_job.Goals as goal

pub returns-in-Err : goal.returns-in-Err
returns-in-Err c =
    let (on, read) = c.in_ok-job.ensures.reading in
    inr (lacking c.args.file.now c.in_ok-job.job on read c.args.room c.in-Err.no_room c.in-Err.ensures.room, c.in-Err.ensures.told ∙ ap no_room on)

pub returns : goal.returns
returns c =
    let (on, read) = c.in_ok-job.ensures.reading in (
      job_found c.in_ok-job.job,
      planned c.args.file.now c.in_ok-job.job on read c.rules_of.result c.rules_of.ensures c.args.room c.in-Ok.board _ _ _ c.run.new.scratch _
          c.in-Ok.ensures.room c.in-Ok.ensures.opens (search rules) (sym (with_items_is c.args.room.plan c.run.new.plan (search rules))) (search rules)
          (both _ _ _ _ _ _ _ _ _ _ _ c.planning.ensures refl c.run.auto.answers c.run.ensures.runs),
    )
