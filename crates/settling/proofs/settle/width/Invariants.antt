use Rattle.std.proofs.Common.{◌≡◌, ◌+◌, ◌-◌, ◌*◌, ◌≤◌, take, sum_by}
use Rattle.bounds.specs.declared.row.Row.{Row}
use Rattle.settling.proofs.settle.width.Given as goal

abbrev pub invariant-loop-row : goal.invariant-loop-row
invariant-loop-row l = (l.width ≡ sum_by (λ (r : Row). r.high - r.low) (take l.row-index l.rows) + 1) × (l.width ≤ 65535 * l.row-index + 1)
