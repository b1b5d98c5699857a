use Rattle.std.proofs.Common.{sym, subst}
use Rattle.settling.specs.declared.settled.Settled.{Settled}
use Rattle.settling.specs.Settles.{Settles}
use Rattle.settling.proofs.Asks.{begun_sound, settles_on}
use Rattle.settling.proofs.settle.settle_rows.Goals as goal

pub settle_on-requires-clause-sound : goal.settle_on-requires-clause-sound
settle_on-requires-clause-sound g c = begun_sound _ (g.F.Family.lawful c.args.family.now) _ _ _ _ c.requires.sound c.in-None.ensures

pub returns-in-None : goal.returns-in-None
returns-in-None g c =
    let (k, settles, is) = c.settle_on.ensures in
    subst (λ (r : Settled). Settles (g.F.Family.meaning c.args.family.now) c.args.rows.now c.settle_on.new.rows r) (sym is)
    (settles_on _ _ _ _ _ _ k c.in-None.ensures settles)
