use Rattle.settling.proofs.Folds.{listed_named}
use Rattle.settling.proofs.folded.FoldedWatchers.list.Goals as goal

pub returns-in-Some : goal.returns-in-Some
returns-in-Some g c = listed_named (g.F.Family.meaning c.args.family.now) c.args.cells c.args.rule c.in-Some.count c.list.new.room _ _ c.in-Some.ensures c.list_named.ensures
