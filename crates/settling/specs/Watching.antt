-- The rules by the cells that they touch.
use Rattle.std.specs.Prelude.{◌≡◌, ℕ, ◌*◌, ◌%◌, ◌<◌, ◌≤◌, ◌&&◌, nat_lt, Bool, true, false, ◌≢◌, ◌⊎◌, List, slice_index, slice_index_or, Option, Some, None}
use Rattle.std.specs.Int.{bit_at}
use Rattle.bounds.specs.Laws.{Meaning, Idempotent}
use Rattle.rule_sets.specs.declared.rule_set.RuleSet.{RuleSet}
use Rattle.rule_sets.specs.Members.{has, no_rules}
use Rattle.settling.specs.declared.watchers.Watchers.{Watchers}
use Rattle.settling.specs.declared.watchers.Room.{Room}
use Rattle.settling.specs.declared.watchers.Room.TheVariants as room
use Rattle.settling.specs.declared.watchers.Room.TheVariants.{Few, Most}

-- the rules that are listed with a cell
abbrev pub watching : Watchers → ℕ → RuleSet
watching w c = slice_index_or w.by_cell c no_rules

-- of the rules below r, those that touch a cell of n, and no others, are listed with it
abbrev pub ListedBelow : Meaning → ℕ → ℕ → Watchers → Type 0
ListedBelow m n r w = (c q : ℕ) → c < n → has (watching w c) q ≡ (nat_lt q r && (m.rule q).touches n c)

-- each rule of the set is idempotent
abbrev pub AllIdempotent : Meaning → RuleSet → Type 0
AllIdempotent m s = (q : ℕ) → has s q ≡ true → Idempotent (m.rule q)

-- for rule q, each cell of n that it touches has its bit set: that of its number modulo 64
abbrev pub Reaches : Meaning → ℕ → ℕ → Watchers → Type 0
Reaches m n q w = (c : ℕ) → c < n → (m.rule q).touches n c ≡ true → bit_at (slice_index w.reach q) (c % 64) ≡ 1

-- in the room so many cells and rules have their places, or it is the largest
abbrev pub Serves : ℕ → ℕ → Room → Type 0
Serves n r Few = (n ≤ 64) × (r ≤ 64)
Serves n r room.Some = (n ≤ 1024) × (r ≤ 1024)
Serves n r Most = (1024 < n) ⊎ (1024 < r)

-- what a table says of the cells of n, where the rules below r are listed
pub record WatchingBelow (m : Meaning) (n r : ℕ) (w : Watchers) : Type 0 where
  pub room : m.size ≤ 64 * w.words
  pub few : w.words ≤ 64
  pub listed : ListedBelow m n r w
  pub reach : (q : ℕ) → q < r → Reaches m n q w
  pub known : AllIdempotent m w.idempotent

abbrev pub Watching : Meaning → ℕ → Watchers → Type 0
Watching m n w = WatchingBelow m n m.size w

-- rule r is listed with the cells that it touches, where no other is listed anew
pub record Listed (m : Meaning) (n r : ℕ) (w w' : Watchers) : Type 0 where
  pub words : w'.words ≡ w.words
  pub idempotent : w'.idempotent ≡ w.idempotent
  pub rule : (c : ℕ) → c < n → has (watching w c) r ≡ false → has (watching w' c) r ≡ (m.rule r).touches n c
  pub others : (c q : ℕ) → q ≢ r → has (watching w' c) q ≡ has (watching w c) q
  pub reach : Reaches m n r w'
  pub other_reach : (q : ℕ) → q ≢ r → slice_index w'.reach q ≡ slice_index w.reach q

-- the marks are of the cells of n that the rule touches
abbrev pub Touches : Meaning → ℕ → ℕ → List Bool → Type 0
Touches m n r marks = (c : ℕ) → c < n → slice_index_or marks c false ≡ (m.rule r).touches n c

-- the rule itself, if it is noted as idempotent
abbrev pub Rests : Watchers → ℕ → Option ℕ → Type 0
Rests w r None = has w.idempotent r ≡ false
Rests w r (Some q) = (q ≡ r) × (has w.idempotent r ≡ true)
