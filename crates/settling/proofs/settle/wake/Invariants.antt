use Rattle.std.proofs.Common.{◌≡◌, ◌%◌, ◌-◌, length}
use Rattle.settling.specs.Asleep.{WokenAmong, Taken}
use Rattle.settling.proofs.Wakes.{Below}
use Rattle.settling.proofs.settle.wake.Given as goal

abbrev pub invariant-loop-first : goal.invariant-loop-first
invariant-loop-first g l =
    (l.first % 64 ≡ 0) × WokenAmong l.watchers (Below l.first) l.initial.before l.rows l.initial.pending l.pending
    × Taken (Below l.first) l.initial.before l.rows l.before

abbrev pub decreases-loop-first : goal.decreases-loop-first
decreases-loop-first g l = length l.rows - l.first
