use Rattle.std.proofs.Common.{refl, sym, subst, arith}
use Rattle.std.proofs.lemmas.Option.{none-some}
use Rattle.rule_sets.proofs.Bits.{passed_still}
use Rattle.settling.proofs.Scans.{scanned_sound, scanned_narrower, scan_ends, scan_voids, scan_quiet, scan_narrows}
use Rattle.settling.proofs.settle.settle_from.Goals as goal
use Rattle.settling.specs.Plans.{stay}
use Rattle.settling.specs.Folded.{FoldedWatching}

pub scan-init : goal.scan-init
scan-init g c = record { applied = stay; asleep = c.requires.asleep; rests = λ q e. absurd (none-some q e); seen = c.copy_from_slice.ensures.after; long = refl }

pub apply-requires : goal.apply-requires
apply-requires g c = let at = c.requires.watching in let k = c.loop-rule.invariant.0 in let r = c.in-Some.ensures.1 in (
  omega (arith, at.room_cells, at.room_rules),
  (
    scanned_sound _ (g.F.Family.lawful c.args.family.now) _ _ _ _ _ _ c.requires.sound k,
    (
      omega (arith, k.long),
      (
        (omega (arith, at.few, r), omega (arith, at.rules, r)),
        (subst (λ n. FoldedWatching (g.F.Family.meaning c.args.family.now) n c.args.watchers.now) (sym k.long) at, k.seen),
      ),
    ),
  ),
)

pub loop-rule-preserved : goal.loop-rule-preserved
loop-rule-preserved g c = (
  scan_quiet _ (g.F.Family.lawful c.args.family.now) _ _ _ _ _ _ c.requires.sound c.loop-rule.invariant.0 c.args.watchers.now c.requires.watching c.in-Some.rule c.in-Some.ensures _ _ _
      c.in-Quiet.ensures.narrows c.in-Quiet.ensures.marks c.apply.ensures.before,
  passed_still _ _ _ c.in-Some.rule c.in-Some.ensures c.in-Quiet.ensures.marks,
  omega (arith, c.in-Some.ensures.1),
)

pub scan-preserved : goal.scan-preserved
scan-preserved g c =
    scan_narrows _ (g.F.Family.lawful c.args.family.now) _ _ _ _ _ _ c.requires.sound c.loop-rule.invariant.0 c.args.watchers.now c.requires.watching c.in-Some.rule c.in-Some.ensures _ _ _ _ c.resting-resting.ensures
    c.in-Narrowed.ensures.narrows c.in-Narrowed.ensures.marks c.apply.ensures.before (omega arith)

pub returns-in-Void : goal.returns-in-Void
returns-in-Void g c =
    scan_voids _ (g.F.Family.lawful c.args.family.now) _ _ _ _ _ _ c.requires.sound c.loop-rule.invariant.0 c.args.watchers.now c.requires.watching c.in-Some.rule c.in-Some.ensures _
    c.in-Void.ensures.narrows

pub returns-in-scan : goal.returns-in-scan
returns-in-scan g c =
    scan_ends _ (g.F.Family.lawful c.args.family.now) _ _ _ _ _ _ c.requires.sound c.loop-rule.invariant.0 c.args.watchers.now c.requires.watching c.in_default.ensures

pub unreachable-requires : goal.unreachable-requires
unreachable-requires g c = let k = scanned_narrower _ (g.F.Family.lawful c.args.family.now) _ _ _ _ _ _ c.requires.sound c.scan.invariant in omega arith
