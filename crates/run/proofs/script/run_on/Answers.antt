use Rattle.run.proofs.Scripted.{ran_on}
use Rattle.run.proofs.script.run_on.Goals as goal

pub returns : goal.returns
returns g c = ran_on _ _ _ _ _ _ _ _ _ _ _ c.step-answer.ensures c.used.ensures c.step-answer.auto.plan c.step-answer.auto.scratch
