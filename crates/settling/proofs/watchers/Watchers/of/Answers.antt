use Rattle.std.proofs.Common.{replicate, arith}
use Rattle.settling.proofs.Lists.{none_listed, no_rules_yet, all_rules}
use Rattle.settling.proofs.watchers.Watchers.of.Goals as goal

pub loop-rule-init : goal.loop-rule-init
loop-rule-init g c =
    let few = (g.F.Family.lawful c.args.family.now).few in
    no_rules_yet (g.F.Family.meaning c.args.family.now) c.args.cells _ (record {
      room = omega (arith, c.div_ceil.ensures, c.size.ensures);
      few = omega (arith, c.div_ceil.ensures, c.size.ensures, few);
      listed = none_listed (g.F.Family.meaning c.args.family.now) c.args.cells c.none.result c.idempotent_rules.result c.div_ceil.result (replicate 4096 0) c.requires c.none.ensures;
      reach = λ q l. absurd (omega arith);
      known = c.idempotent_rules.ensures;
    })

pub returns : goal.returns
returns g c = all_rules _ _ _ _ (omega (arith, c.loop-rule.auto.rule-end, c.size-rule-end.ensures, c.loop-rule-test.false)) c.loop-rule.invariant
