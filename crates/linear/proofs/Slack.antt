-- A cell that is not much heavier at its high than at its low keeps its bounds.
use Rattle.std.proofs.Common.{◌≡◌, ℕ, ◌-◌, ◌*◌, ◌<◌, ◌≤◌, min, arith}
use Rattle.std.proofs.Math.Nat.{mul-sub}
use Rattle.bounds.specs.declared.row.Row.{Row}
use Rattle.bounds.proofs.Places.{same_row}
use Rattle.linear.specs.declared.limits.Limits.{Limits}
use Rattle.linear.specs.Linear.{bounded}
use Rattle.linear.proofs.Quotients.{div_greatest, over_least}

pub bounded_stays : (l : Limits) (w : ℕ) (r : Row) → 0 < w → w * r.low ≤ l.least → w * r.high ≤ l.most → l.least ≤ l.ceiling → l.floor ≤ l.most
    → w * (r.high - r.low) ≤ min (l.ceiling - l.least) (l.most - l.floor) → bounded l w r ≡ r
bounded_stays l w r some low high kept reached spread =
    let parts = mul-sub w r.high r.low in
    let top = div_greatest (l.ceiling - (l.least - w * r.low)) w r.high some (omega arith) in
    let bottom = over_least (l.floor - (l.most - w * r.high)) w r.low some (omega arith) in
    same_row _ _ (omega arith) (omega arith)
