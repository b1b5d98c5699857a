use Rattle.std.proofs.Common.{◌≡◌}
use Rattle.bounds.specs.Boards.{spread}
use Rattle.settling.specs.Asleep.{AsleepBut}
use Rattle.settling.proofs.Applied.{Keeps}
use Rattle.search.proofs.seek.+search.Given as goal

abbrev pub decreases-search : goal.decreases-search
decreases-search g l = spread l.level.now

abbrev pub invariant-loop-level : goal.invariant-loop-level
invariant-loop-level g l =
    Keeps (g.F.Family.meaning l.family) l.initial.level l.level
    × (l.plan ≡ l.initial.plan)
    × AsleepBut (g.F.Family.meaning l.family) l.watchers l.stirred l.level

abbrev pub decreases-loop-level : goal.decreases-loop-level
decreases-loop-level g l = spread l.level
