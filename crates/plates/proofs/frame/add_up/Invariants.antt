use Rattle.std.proofs.Common.{◌≡◌, length, reverse}
use Rattle.plates.specs.Work.{gap}
use Rattle.plates.proofs.Adding.{Added, sums}
use Rattle.plates.proofs.frame.add_up.Given as goal

-- the sums of the rows so far
abbrev pub invariant-loop-low : goal.invariant-loop-low
invariant-loop-low l = Added (reverse l.yielded) l.top (sums l.certain l.optional l.lows l.base) (length l.yielded) × l.gap ≡ gap (reverse l.yielded)
