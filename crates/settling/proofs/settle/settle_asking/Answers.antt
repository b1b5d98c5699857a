use Rattle.std.proofs.Common.{refl, arith}
use Rattle.rule_sets.proofs.Bits.{passed_still}
use Rattle.settling.proofs.Asks.{begun_sound, begun_ends, begun_voids, begun_quiet, begun_narrows}
use Rattle.settling.specs.Plans.{stay}
use Rattle.settling.proofs.settle.settle_asking.Goals as goal

pub scan-init : goal.scan-init
scan-init g c = record { applied = stay; asleep = c.requires.asleep; long = refl }

pub narrow-requires : goal.narrow-requires
narrow-requires g c = begun_sound _ (g.F.Family.lawful c.args.family.now) _ _ _ _ c.requires.sound c.loop-rule.invariant.0

pub loop-rule-preserved : goal.loop-rule-preserved
loop-rule-preserved g c = (
  begun_quiet _ (g.F.Family.lawful c.args.family.now) _ _ _ _ c.requires.sound c.loop-rule.invariant.0 _ c.in-Some.rule c.in-Some.ensures _ _ c.in-Quiet.ensures c.remove.ensures,
  passed_still _ _ _ c.in-Some.rule c.in-Some.ensures c.remove.ensures,
  omega (arith, c.in-Some.ensures.1),
)

pub scan-preserved : goal.scan-preserved
scan-preserved g c =
    begun_narrows _ (g.F.Family.lawful c.args.family.now) _ _ _ _ c.requires.sound c.loop-rule.invariant.0 _ c.in-Some.rule c.in-Some.ensures _ _ c.in-Narrowed.ensures c.wake_asking.ensures (omega arith)

pub returns-in-Void : goal.returns-in-Void
returns-in-Void g c =
    begun_voids _ (g.F.Family.lawful c.args.family.now) _ _ _ _ c.requires.sound c.loop-rule.invariant.0 _ c.in-Some.rule c.in-Some.ensures _ c.in-Void.ensures

pub returns-in-scan : goal.returns-in-scan
returns-in-scan g c =
    begun_ends _ (g.F.Family.lawful c.args.family.now) _ _ _ _ c.requires.sound c.loop-rule.invariant.0 _ (omega (arith, c.div_ceil-words.ensures)) c.in_default.ensures
