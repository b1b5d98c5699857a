use Rattle.std.proofs.Common.{◌≡◌, ℕ, ◌<◌, length, get_or}
use Rattle.bounds.specs.Boards.{none_row}
use Rattle.rules.proofs.named.gathered.Given as goal

abbrev pub invariant-loop-i : goal.invariant-loop-i
invariant-loop-i g l = (k : ℕ) → k < l.i
    → (get_or (g.R.Scope.scope l.rule) k 0 < length l.rows)
    × (get_or l.own k none_row ≡ get_or l.rows (get_or (g.R.Scope.scope l.rule) k 0) none_row)
    × (get_or l.before k none_row ≡ get_or l.rows (get_or (g.R.Scope.scope l.rule) k 0) none_row)
