-- Plans, and boards that no rule narrows.
use Rattle.std.specs.Prelude.{◌≡◌, ℕ, ◌+◌, ◌<◌, true, ◌≢◌, ◌⊎◌, List, [], ◌∷◌}
use Rattle.bounds.specs.declared.row.Row.{Row}
use Rattle.bounds.specs.Boards.{Board, cells, Real, Within, Lies}
use Rattle.bounds.specs.Laws.{Meaning, narrowing}

-- a plan (solution) meets every rule
abbrev pub Plan : Meaning → List ℕ → Type 0
Plan m p = (r : ℕ) → r < m.size → (m.rule r).meets p ≡ true

-- of two fillings, the first has the lower count in the lowest-numbered cell where they differ
abbrev pub Before : List ℕ → List ℕ → Type 0
Before [] q = ⊥
Before (x ∷ p) [] = ⊥
Before (x ∷ p) (y ∷ q) = (x < y) ⊎ ((x ≡ y) × Before p q)

-- the first plan among the fillings allowed
pub record First (m : Meaning) (Allowed : List ℕ → Type 0) (p : List ℕ) : Type 0 where
  pub is_plan : Plan m p
  pub is_allowed : Allowed p
  pub no_earlier : (q : List ℕ) → Plan m q → Allowed q → Before q p → ⊥

abbrev pub NoPlan : Meaning → (List ℕ → Type 0) → Type 0
NoPlan m Allowed = (p : List ℕ) → Plan m p → Allowed p → ⊥

-- no rule narrows the board
abbrev pub Still : Meaning → Board → Type 0
Still m b = (r : ℕ) → r < m.size → narrowing (m.rule r) b ≡ b

-- the board lies within what is allowed if all its fillings do
abbrev pub AllAllowed : (List ℕ → Type 0) → Board → Type 0
AllAllowed Allowed b = (p : List ℕ) → Lies p b → Allowed p

-- the widest board within what is allowed that no rule narrows: every other such board lies within it
pub record Widest (m : Meaning) (Allowed : List ℕ → Type 0) (b : Board) : Type 0 where
  pub real : Real b
  pub still : Still m b
  pub allowed : AllAllowed Allowed b
  pub widest : (c : Board) → Real c → Still m c → AllAllowed Allowed c → Within c b

-- r is the lowest-numbered rule that changes the rows
pub record Lowest (m : Meaning) (a : List Row) (r : ℕ) : Type 0 where
  pub listed : r < m.size
  pub before : (q : ℕ) → q < r → (m.rule q).narrowed a ≡ cells a
  pub moves : (m.rule r).narrowed a ≢ cells a

-- n applications, each of the lowest-numbered rule that changes the rows, lead from a to b
pub data Applies (m : Meaning) : List Row → List Row → ℕ → Type 0 where
  stay : {a : List Row} → Applies m a a 0
  more : {a b c : List Row} {n : ℕ} → Applies m a b n → (r : ℕ) → Lowest m b r → (m.rule r).narrowed b ≡ cells c → Applies m a c (n + 1)
