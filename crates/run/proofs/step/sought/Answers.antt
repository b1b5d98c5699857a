use Rattle.std.proofs.Common.{Ok, ap, ◌∙◌}
use Rattle.run.proofs.Makes.{made_found, made_none, made_refused}
use Rattle.run.proofs.step.sought.Goals as goal

pub returns-in-Ok-true : goal.returns-in-Ok-true
returns-in-Ok-true g c =
    let parts = c.split_at_mut-free.ensures in
    made_found _ (g.F.Family.lawful c.args.family.now) c.args.board.now c.args.used c.args.plan.now _ _ c.seek.new.plan c.args.scratch.now c.seek.new.scratch _
    c.min-start.ensures parts.front parts.back c.seek.auto.plan c.seek.auto.scratch c.seek.result c.seek.ensures.does c.seek.ensures.memory
    c.cells.result c.cells.ensures.value (c.in-Ok-true.is ∙ ap Ok c.in-Ok-true.field-0-test)

pub returns-in-Ok-false : goal.returns-in-Ok-false
returns-in-Ok-false g c =
    let parts = c.split_at_mut-free.ensures in
    made_none _ (g.F.Family.lawful c.args.family.now) c.args.board.now c.args.used c.args.plan.now _ _ c.seek.new.plan c.args.scratch.now c.seek.new.scratch _
    c.min-start.ensures parts.front parts.back c.seek.auto.plan c.seek.auto.scratch c.seek.result c.seek.ensures.does c.seek.ensures.memory
    (c.in-Ok-false.is ∙ ap Ok c.in-Ok-false.field-0-test)

pub returns-in-Err : goal.returns-in-Err
returns-in-Err g c =
    let parts = c.split_at_mut-free.ensures in
    made_refused _ (g.F.Family.lawful c.args.family.now) c.args.board.now c.args.used c.args.plan.now _ _ c.seek.new.plan c.args.scratch.now c.seek.new.scratch _
    c.min-start.ensures parts.front parts.back c.seek.auto.plan c.seek.auto.scratch c.seek.result c.seek.ensures.does c.seek.ensures.memory
    c.in-Err.why c.in-Err.is
