-- Mirrors: what one asks of the counts of its cells, and the rules that a list of them is.
use Rattle.std.specs.Prelude.{ℕ, ◌-◌, min, max, Bool, List, [], ◌∷◌, length, get_or, nat_le, slice_get}
use Rattle.bounds.specs.Laws.{Meaning}
use Rattle.bounds.specs.Scoped.{Scoped, exact_on}
use Rattle.bounds.specs.Listed.{numbered}
use Rattle.rules.specs.Numbers.{or_none}
use Rattle.house.specs.declared.mirror.Mirror.{Mirror}

-- the two counts differ by at most so many
abbrev pub alike : ℕ → List ℕ → Bool
alike most p = let x = get_or p 0 0 in let y = get_or p 1 0 in nat_le (max x y - min x y) most

abbrev pub scope_of : Mirror → List ℕ
scope_of m = m.left ∷ (m.right ∷ [])

-- over the left and the right cell, narrowed exactly
abbrev pub mirror_rule : Mirror → Scoped
mirror_rule m = exact_on (scope_of m) (alike m.most)

-- one rule to a mirror, in the order of the list
abbrev pub mirrors : List Mirror → Meaning
mirrors ms = numbered (length ms) (λ number. or_none mirror_rule (slice_get ms number))
