-- What a settle's answer says of the rows before it and after it.
use Rattle.std.specs.Prelude.{◌≡◌, ℕ, ◌+◌, true, List, length, Option, Some, None}
use Rattle.bounds.specs.declared.row.Row.{Row}
use Rattle.bounds.specs.Boards.{void, cells, sound}
use Rattle.bounds.specs.Laws.{Meaning}
use Rattle.rule_sets.specs.declared.rule_set.RuleSet.{RuleSet}
use Rattle.settling.specs.Asleep.{Asleep}
use Rattle.settling.specs.declared.settled.Settled.{Settled}
use Rattle.settling.specs.declared.settled.Settled.TheVariants.{Settled as Ended, Void as Emptied}
use Rattle.settling.specs.Plans.{Applies, Lowest, Still}

-- n applications led to the rows b, on which every rule is quiet that is not pending
pub record Begun (m : Meaning) (a b : List Row) (n : ℕ) (p : RuleSet) : Type 0 where
  pub applied : Applies m a b n
  pub asleep : Asleep m b p
  pub long : length b ≡ length a

-- the last of the applications voids the board, and the rows stay as they were before it
abbrev pub Settles : Meaning → List Row → List Row → Settled → Type 0
Settles m a b (Ended n) = Applies m a b n × Still m (cells b) × (sound b ≡ true) × (length b ≡ length a)
Settles m a b (Emptied n) =
    ((k r : ℕ) × (n ≡ k + 1) × Applies m a b k × Lowest m b r × ((m.rule r).narrowed b ≡ void)) × (sound b ≡ true) × (length b ≡ length a)

-- the answer after n applications more before it
abbrev pub later : ℕ → Settled → Settled
later n (Ended k) = Ended (n + k)
later n (Emptied k) = Emptied (n + k)

-- the answer of a settle, or four applications with which it has begun
abbrev pub SettlesOrBegins : Meaning → List Row → List Row → RuleSet → Option Settled → Type 0
SettlesOrBegins m a b p (Some r) = Settles m a b r
SettlesOrBegins m a b p None = Begun m a b 4 p

-- what goes on after those four, and answers for them too
abbrev pub SettlesOn : Meaning → List Row → List Row → Settled → Type 0
SettlesOn m a b r = (k : Settled) × Settles m a b k × (r ≡ later 4 k)
