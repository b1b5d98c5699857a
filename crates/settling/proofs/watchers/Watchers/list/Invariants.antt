use Rattle.std.proofs.Common.{◌≡◌, ℕ, ◌%◌, ◌<◌, ◌≤◌, true, false, ◌≢◌}
use Rattle.std.specs.Int.{bit_at}
use Rattle.rule_sets.specs.Members.{has}
use Rattle.settling.specs.Watching.{watching}
use Rattle.settling.proofs.watchers.Watchers.list.Given as goal

abbrev pub invariant-loop-cell : goal.invariant-loop-cell
invariant-loop-cell g l =
    let m = g.F.Family.meaning l.family in
    (l.self.words ≡ l.initial.self.words) × (l.self.idempotent ≡ l.initial.self.idempotent)
    × ((c : ℕ) → c < l.cell → has (watching l.initial.self c) l.rule ≡ false → has (watching l.self c) l.rule ≡ (m.rule l.rule).touches l.cells c)
    × ((c : ℕ) → l.cell ≤ c → watching l.self c ≡ watching l.initial.self c)
    × ((c q : ℕ) → q ≢ l.rule → has (watching l.self c) q ≡ has (watching l.initial.self c) q)
    × (l.self.reach ≡ l.initial.self.reach)
    × ((c : ℕ) → c < l.cell → (m.rule l.rule).touches l.cells c ≡ true → bit_at l.reach (c % 64) ≡ 1)
