use Rattle.run.specs.Scripts.{RanTo}
use Rattle.run.proofs.script.run.Given as goal

abbrev pub invariant-loop-place : goal.invariant-loop-place
invariant-loop-place g l =
    RanTo (g.F.Family.meaning l.family) l.initial.board l.board l.initial.plan l.plan l.initial.scratch l.scratch
    l.call-items l.initial.answers l.answers l.place l.used
