use Rattle.std.proofs.Common.{ℕ, Some, List, length, drop, sym, refl, ap, ◌∙◌, subst, arith, rules}
use Rattle.bounds.specs.declared.row.Row.{Row}
use Rattle.bounds.specs.Boards.{sound, spread}
use Rattle.settling.specs.Asleep.{AsleepBut}
use Rattle.settling.specs.Folded.{FoldedWatching}
use Rattle.settling.proofs.Applied.{applied_narrower}
use Rattle.search.proofs.Tries.{Node, keeps_same, none_voided, leaf_found, node, lower, fixed_sound, fixed_length, fixed_narrower, raised_narrower, tried_room, try_found, try_none, fixed_folded, raised_folded}
use Rattle.search.proofs.seek.+search.Given as given
use Rattle.search.proofs.seek.+search.Goals as goal
use Rattle.search.proofs.seek.+search.Goals.{In-Some}

at-cell : (g : given.Over) (t : ℕ) (c : goal.In-Some g t)
    → Node (g.F.Family.meaning c.args.family.now) c.args.level.now c.settle_stirred.new.rows c.in-Some.cell
at-cell g t c =
    node _ (g.F.Family.lawful c.args.family.now) c.args.level.now c.loop-level.level c.settle_stirred.new.rows c.in_default.field-0
    c.loop-level.invariant.0 c.loop-level.auto.level c.in_default.ensures c.in-Some.cell c.in-Some.ensures

pub loop-level-init : goal.loop-level-init
loop-level-init g t c = (keeps_same _ _ c.requires.sound, refl, c.requires.asleep)

pub returns-in-Void : goal.returns-in-Void
returns-in-Void g t c = (
  none_voided _ (g.F.Family.lawful c.args.family.now) _ c.loop-level.level c.settle_stirred.new.rows c.in-Void.field-0
      c.loop-level.invariant.0 c.loop-level.auto.level c.in-Void.ensures,
  c.loop-level.invariant.1,
)

pub returns-in_default-first_open : goal.returns-in_default-first_open
returns-in_default-first_open g t c =
    leaf_found _ (g.F.Family.lawful c.args.family.now) _ c.loop-level.level c.settle_stirred.new.rows c.in_default.field-0
    c.loop-level.invariant.0 c.loop-level.auto.level c.in_default.ensures c.in_default-first_open.ensures _ _ c.write_lows.ensures.front
    (c.write_lows.ensures.back ∙ ap (drop (length c.settle_stirred.new.rows)) c.loop-level.invariant.1)

pub split_at_mut-tried-requires : goal.split_at_mut-tried-requires
split_at_mut-tried-requires g t c =
    omega (arith, tried_room _ _ _ _ (at-cell g t (goal.at.split_at_mut-tried-requires g t c).In-Some) (length c.loop-level.rest) (omega arith))

pub search-requires : goal.search-requires
search-requires g t c κs within =
    let d = at-cell g t (goal.at.search-requires g t c).In-Some in
    let is = c.branch-level.ensures.tried in
    let at = c.requires.watching in
    let n = ap length is ∙ fixed_length _ _ _ _ d in (
      omega (arith, ap spread is, fixed_narrower _ _ _ _ d, c.decreases),
      (
        within,
        (
          search rules,
          (
            search rules,
            (
              omega (arith, at.room_cells, at.room_rules),
              (
                ap sound is ∙ fixed_sound _ _ _ _ d,
                (
                  omega arith,
                  (
                    omega arith,
                    (
                      rw (n, is) (omega (arith, tried_room _ _ _ _ d (length c.loop-level.rest) (omega arith))),
                      (
                        subst (λ (k : ℕ). FoldedWatching (g.F.Family.meaning c.args.family.now) k c.args.watchers.now) (sym n) at,
                        (
                          subst (λ (x : List Row). AsleepBut (g.F.Family.meaning c.args.family.now) c.args.watchers.now (Some c.in-Some.cell) x) (sym is)
                              (fixed_folded _ _ _ _ d (g.F.Family.lawful c.args.family.now) _ at),
                          omega (arith, c.requires.before),
                        ),
                      ),
                    ),
                  ),
                ),
              ),
            ),
          ),
        ),
      ),
    )

pub returns-then-search : goal.returns-then-search
returns-then-search g t c =
    try_found _ _ _ _ (at-cell g t (goal.at.returns-then-search g t c).In-Some) _ c.branch-level.ensures.tried
    _ _ _ c.loop-level.invariant.1 c.if-search.ensures

pub branch-level-requires-clause-open : goal.branch-level-requires-clause-open
branch-level-requires-clause-open g t c = lower _ _ _ _ (at-cell g t (goal.at.branch-level-requires-clause-open g t c).In-Some)

pub loop-level-smaller : goal.loop-level-smaller
loop-level-smaller g t c =
    omega (
      arith,
      ap spread c.branch-level.ensures.left,
      raised_narrower _ _ _ _ (at-cell g t (goal.at.loop-level-smaller g t c).In-Some),
      applied_narrower _ (g.F.Family.lawful c.args.family.now) c.loop-level.invariant.0.still_sound c.in_default.ensures.0,
    )

pub loop-level-preserved : goal.loop-level-preserved
loop-level-preserved g t c =
    let d = at-cell g t (goal.at.loop-level-preserved g t c).In-Some in
    let (kept, same) = try_none (g.F.Family.meaning c.args.family.now) _ _ _ d _ c.branch-level.ensures.tried _ _ _ c.loop-level.invariant.1 c.if-search.ensures in
    rw c.branch-level.ensures.left (kept, same, raised_folded _ _ _ _ d (g.F.Family.lawful c.args.family.now) _ c.requires.watching)
