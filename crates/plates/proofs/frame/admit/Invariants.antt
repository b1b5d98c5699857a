use Rattle.std.proofs.Common.{◌≡◌, ℕ, ◌+◌, ◌<◌, ◌≤◌, max, get_or}
use Rattle.plates.specs.Work.{Light}
use Rattle.plates.proofs.frame.admit.Given as goal

-- the sums at k and below are as they were
abbrev pub invariant-loop-k : goal.invariant-loop-k
invariant-loop-k l =
    Light l.initial.top l.count 4194304
    × ((j : ℕ) → j ≤ l.k → get_or l.top j 0 ≡ get_or l.initial.top j 0)
    × (get_or l.top (l.count + 1) 0 ≡ get_or l.initial.top (l.count + 1) 0)
    × ((j : ℕ) → l.k ≤ j → j < l.count → get_or l.top (j + 1) 0 ≡ max (get_or l.initial.top (j + 1) 0) (get_or l.initial.top j 0 + l.high))
