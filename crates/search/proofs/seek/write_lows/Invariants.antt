use Rattle.std.proofs.Common.{◌≡◌, length, take, drop}
use Rattle.bounds.specs.Boards.{lows}
use Rattle.search.proofs.seek.write_lows.Given as goal

abbrev pub invariant-loop-cell : goal.invariant-loop-cell
invariant-loop-cell l =
    (take l.cell l.plan ≡ lows (take l.cell l.rows))
    × (drop (length l.rows) l.plan ≡ drop (length l.rows) l.initial.plan)
