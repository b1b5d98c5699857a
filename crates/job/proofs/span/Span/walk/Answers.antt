use Rattle.job.proofs.Walks.{refuses, stops}
use Rattle.std.proofs.Common.{arith}
use Rattle.std.proofs.lemmas.Result.{err_from_is_err_and}
use Rattle.records.specs.Refusals.{of_record}
use Rattle.job.proofs.span.Span.walk.Goals as goal

pub returns-in_err-end : goal.returns-in_err-end
returns-in_err-end g c = let s = c.args.self in let p = err_from_is_err_and c.from_residual.result c.from_residual.ensures.1 in rw (p.1, p.2)
    (refuses g.K.BodyKind.form s.start s.cells s.bytes.now c.args.first c.args.places.now
    c.records.places c.records.number c.records.at (of_record c.in_err-end.field-0.0) c.records.invariant c.in_err-end.ensures.0)

pub returns-then-end-self : goal.returns-then-end-self
returns-then-end-self g c = let s = c.args.self in rw c.in_ok-end.ensures.1
    (stops g.K.BodyKind.form s.start s.cells s.bytes.now c.args.first c.args.places.now
    c.records.places c.records.number c.records.at c.in_ok-end.end c.records.invariant c.in_ok-end.ensures.0 (omega arith))
