use Rattle.std.proofs.Common.{◌+◌, ◌-◌, length}
use Rattle.job.proofs.Walks.{Walking}
use Rattle.job.proofs.span.Span.walk.Given as goal

abbrev pub invariant-records : goal.invariant-records
invariant-records g l = Walking g.K.BodyKind.form l.self.start l.self.cells l.self.bytes.now l.first l.initial.places l.places l.number l.at

abbrev pub decreases-records : goal.decreases-records
decreases-records g l = (length l.self.bytes.now + 1) - l.at
