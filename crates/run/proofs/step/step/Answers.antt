use Rattle.run.proofs.Makes.{stays_same, stays_saved, stays_opened, made_tighten, made_open, made_ask, made_settle}
use Rattle.run.proofs.step.step.Goals as goal

pub returns-in-Tighten : goal.returns-in-Tighten
returns-in-Tighten g c =
    let e = c.tighten.ensures in let m = g.F.Family.meaning c.args.family.now in
    made_tighten m (g.F.Family.lawful c.args.family.now) _ _ _ _ _ _ _ _ _ _ c.tighten.result
    c.in-Tighten.is c.into.ensures (e.does m) (stays_saved _ _ e.memory.frame e.memory.saved)

pub returns-in-Open : goal.returns-in-Open
returns-in-Open g c =
    let e = c.open.ensures in let m = g.F.Family.meaning c.args.family.now in
    made_open m (g.F.Family.lawful c.args.family.now) _ _ _ _ _ _ _ c.open.result
    c.in-Open.is c.into-in-Open.ensures (e.does m) (stays_opened _ _ e.frame m c.open.result (e.does m) e.outside e.refused)

pub returns-in-Ask : goal.returns-in-Ask
returns-in-Ask g c =
    let m = g.F.Family.meaning c.args.family.now in
    made_ask m (g.F.Family.lawful c.args.family.now) _ _ _ _ _ _ _ c.in-Ask.cell c.ask.result c.in-Ask.is c.asked.ensures (c.ask.ensures m) (stays_same _)

pub returns-in-Settle : goal.returns-in-Settle
returns-in-Settle g c =
    let e = c.settle.ensures in
    made_settle _ (g.F.Family.lawful c.args.family.now) _ _ _ _ _ _ _ c.settle.result
    c.in-Settle.is c.into-in-Settle.ensures e.does (stays_saved _ _ e.memory.frame e.memory.saved)
