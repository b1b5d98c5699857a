use Rattle.run.proofs.Kept.{kept, accounts}
use Rattle.run.proofs.script.run.Goals as goal

pub returns-clause-promise : goal.returns-clause-promise
returns-clause-promise g c = kept _ (g.F.Family.lawful c.args.family.now)

pub returns-clause-accounts : goal.returns-clause-accounts
returns-clause-accounts g c = accounts _ (g.F.Family.lawful c.args.family.now)
