use Rattle.settling.specs.Asleep.{WokenAmong, Taken}
use Rattle.settling.proofs.Wakes.{Done}
use Rattle.settling.proofs.settle.wake_64.Given as goal

abbrev pub invariant-loop-bit : goal.invariant-loop-bit
invariant-loop-bit g l =
    WokenAmong l.watchers (Done l.first l.left) l.initial.before l.rows l.initial.pending l.pending
    × Taken (Done l.first l.left) l.initial.before l.rows l.before

abbrev pub decreases-loop-bit : goal.decreases-loop-bit
decreases-loop-bit g l = l.left
