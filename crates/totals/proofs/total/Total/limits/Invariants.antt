use Rattle.std.proofs.Common.{◌≡◌, ◌*◌, ◌^◌, ◌≤◌, take}
use Rattle.totals.specs.Narrowing.{limits_of}
use Rattle.totals.proofs.total.Total.limits.Given as goal

abbrev pub invariant-loop-i : goal.invariant-loop-i
invariant-loop-i l =
    (l.limits ≡ limits_of l.self (take l.i l.own))
    × (l.limits.least ≤ 2 ^ 48 * l.i) × (l.limits.most ≤ 2 ^ 48 * l.i)
