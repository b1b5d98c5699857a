use Rattle.std.proofs.Common.{◌≡◌, ltb, ◌*◌, ◌≤◌, List, length, sym, ap, ◌∙◌, subst, mul-le-mul_right, add-mul, arith}
use Rattle.bounds.specs.declared.row.Row.{Row}
use Rattle.bounds.specs.Boards.{sound}
use Rattle.search.specs.Seeks.{opens}
use Rattle.std.proofs.lemmas.List.Sums.{count_by-le-length}
use Rattle.search.proofs.seek.seek.Goals as goal

pub first_plan-requires : goal.first_plan-requires
first_plan-requires g c =
    let a = c.rows-rows.result.now in
    let is = c.copy_from_slice.ensures.after in
    let n : length c.copy_from_slice.new.self ≡ length a = ap length is in
    record {
      sound = ap sound is ∙ c.rows-rows.ensures.sound;
      few = omega arith;
      counts = omega arith;
      room = subst (λ (x : List Row). opens x * length x ≤ length c.split_at_mut-level.result.1.now) (sym is)
          (omega (arith, mul-le-mul_right (length a) (count_by-le-length (λ (r : Row). ltb r.low r.high) a), add-mul (length a) 1 (length a)));
    }
