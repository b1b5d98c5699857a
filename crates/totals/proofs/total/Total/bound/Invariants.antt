use Rattle.std.proofs.Common.{◌≡◌, ℕ, ◌<◌, get_or}
use Rattle.bounds.specs.Boards.{none_row}
use Rattle.totals.specs.Narrowing.{new_rows}
use Rattle.totals.proofs.Outcomes.{Far}
use Rattle.totals.proofs.total.Total.bound.Given as goal

abbrev pub invariant-loop-i : goal.invariant-loop-i
invariant-loop-i l =
    Far (new_rows l.self l.own) l.own l.i l.change
    × ((k : ℕ) → k < l.i → get_or l.new k none_row ≡ get_or (new_rows l.self l.own) k none_row)
