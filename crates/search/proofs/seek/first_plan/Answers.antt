use Rattle.std.proofs.Common.{length, refl, sym, mul-le-mul_right, subst, ◌*◌, ◌≤◌, ℕ, arith}
use Rattle.settling.proofs.Applied.{applied_keeps}
use Rattle.search.specs.Seeks.{opens}
use Rattle.search.proofs.Tries.{keeps_same, none_voided, leaf_found, searched_kept, opens_inside}
use Rattle.search.proofs.seek.first_plan.Goals as goal

pub returns-in-Void : goal.returns-in-Void
returns-in-Void g c =
    (none_voided _ (g.F.Family.lawful c.args.family.now) _ _ c.settle_rows.new.rows c.in-Void.field-0 (keeps_same _ _ c.requires.sound) refl c.in-Void.ensures, refl)

pub returns-in-None : goal.returns-in-None
returns-in-None g c =
    leaf_found _ (g.F.Family.lawful c.args.family.now) _ _ c.settle_rows.new.rows c.in_default.field-0 (keeps_same _ _ c.requires.sound) refl
    c.in_default.ensures c.in-None.ensures _ _ c.write_lows.ensures.front c.write_lows.ensures.back

pub search_in_room-requires-clause-room : goal.search_in_room-requires-clause-room
search_in_room-requires-clause-room g c =
    let k = applied_keeps _ (g.F.Family.lawful c.args.family.now) c.requires.sound c.in_default.ensures.0 in
    let n = opens_inside c.settle_rows.new.rows c.args.level.now k.inside in
    subst (λ (j : ℕ). opens c.settle_rows.new.rows * j ≤ length c.args.rest.now) (sym c.in_default.ensures.3)
    (omega (arith, mul-le-mul_right (length c.args.level.now) n, c.requires.room))

pub returns-in-Some : goal.returns-in-Some
returns-in-Some g c =
    searched_kept _ c.args.level.now c.settle_rows.new.rows _ _ c.search_in_room.result
    (applied_keeps _ (g.F.Family.lawful c.args.family.now) c.requires.sound c.in_default.ensures.0) c.in_default.ensures.3 c.search_in_room.ensures
