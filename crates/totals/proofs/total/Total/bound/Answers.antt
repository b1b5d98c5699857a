use Rattle.std.proofs.Common.{◌+◌, ◌≤◌, get_or, sym, refl, ap, ◌∙◌, subst, arith}
use Rattle.std.proofs.lemmas.Bool.{leb-true, leb-false}
use Rattle.bounds.specs.declared.row.Row.{Row}
use Rattle.bounds.specs.Boards.{none_row}
use Rattle.bounds.proofs.Places.{low_at, high_at, sound_at, same_rows}
use Rattle.rule_families.specs.declared.change.Change.{Change}
use Rattle.rules.proofs.Compared.{rows_differ, rows_agree}
use Rattle.totals.specs.Narrowing.{new_rows}
use Rattle.totals.proofs.Outcomes.{Far, far_same, far_other, far_all, far_void, stored_more}
use Rattle.totals.proofs.Opened.{ready, new_at, new_length}
use Rattle.totals.proofs.total.Total.bound.Goals as goal

pub bound-bounded-requires : goal.bound-bounded-requires
bound-bounded-requires c = grind (
  arith,
  ready c.args.self.now c.args.own.now c.args.limits.sum c.requires.opened c.loop-i.i c.weight.result c.loop-i-test.true c.weight.ensures,
)

pub returns-then-not-is_sound-clause-outcome : goal.returns-then-not-is_sound-clause-outcome
returns-then-not-is_sound-clause-outcome c =
    let t = c.args.self.now in
    let a = c.args.own.now in
    let new = new_at t a c.args.limits.sum c.requires.opened c.loop-i.i c.weight.result c.loop-i-test.true c.weight.ensures c.bound-bounded.result c.bound-bounded.ensures in
    far_void (new_rows t a) a (new_length t a c.args.limits.sum c.requires.opened) c.loop-i.i c.loop-i-test.true
    (omega (arith, leb-false _ _ (sym c.is_sound.ensures ∙ c.if-not-is_sound.true), ap (λ x. x.low) new, ap (λ x. x.high) new))

pub loop-i-preserved : goal.loop-i-preserved
loop-i-preserved c =
    let t = c.args.self.now in
    let a = c.args.own.now in
    let i = c.loop-i.i in
    let new = new_at t a c.args.limits.sum c.requires.opened i c.weight.result c.loop-i-test.true c.weight.ensures c.bound-bounded.result c.bound-bounded.ensures in
    let Next : Change → Type 0 = Far (new_rows t a) a (i + 1) in
    let rows = stored_more (new_rows t a) c.loop-i.new i c.bound-bounded.result (omega (arith, c.requires.room, c.loop-i.auto.new)) new c.loop-i.invariant.1 in (
      elim c.if-ne.branch [
        | goal.then-ne+else-not-is_sound w ↦
            let sound : low_at (new_rows t a) i ≤ high_at (new_rows t a) i =
            omega (arith, leb-true _ _ (sym w.is_sound.ensures ∙ w.if-not-is_sound.false), ap (λ r. r.low) new, ap (λ r. r.high) new) in
            subst Next (sym w.change-is)
            (far_other (new_rows t a) a i c.loop-i.change c.loop-i.invariant.0 sound (λ same. rows_differ c.bound-bounded.result (get_or a i none_row) _ refl (sym w.if-ne.true ∙ c.ne.ensures) (sym new ∙ same)))
        | goal.else-ne w ↦
            let same = new ∙ rows_agree c.bound-bounded.result (get_or a i none_row) _ refl (sym w.if-ne.false ∙ c.ne.ensures) in
            let kept = sound_at a c.requires.sound i c.loop-i-test.true in
            let sound : low_at (new_rows t a) i ≤ high_at (new_rows t a) i = omega (arith, kept, ap (λ (r : Row). r.low) same, ap (λ (r : Row). r.high) same) in
            subst Next (sym w.change-is) (far_same (new_rows t a) a i c.loop-i.change c.loop-i.invariant.0 sound same)
      ],
      rows,
    )

pub returns-clause-outcome : goal.returns-clause-outcome
returns-clause-outcome c =
    let t = c.args.self.now in
    let a = c.args.own.now in
    far_all (new_rows t a) a (new_length t a c.args.limits.sum c.requires.opened) c.loop-i.i c.loop-i.change c.loop-i-test.false c.loop-i.invariant.0

pub returns-clause-rows : goal.returns-clause-rows
returns-clause-rows c _ =
    let n = new_length c.args.self.now c.args.own.now c.args.limits.sum c.requires.opened in
    same_rows c.loop-i.new (new_rows c.args.self.now c.args.own.now) (omega (arith, n, c.requires.room, c.loop-i.auto.new))
    (λ k l. c.loop-i.invariant.1 k (omega (arith, c.requires.room, c.loop-i.auto.new, c.loop-i-test.false)))
