-- What a family of rules means, and the five laws.
use Rattle.std.specs.Prelude.{◌≡◌, ℕ, ◌<◌, ◌≤◌, Bool, true, false, List, length, slice_index, slice_index_or}
use Rattle.bounds.specs.declared.row.Row.{Row}
use Rattle.bounds.specs.Boards.{Board, void, cells, sound, Real, Within, Lies, none_row}

-- A constraint: the fillings that meet it, the cells that it touches on a board of so many cells,
-- and its narrowing (propagator) of rows.
pub record Rule : Type 0 where
  pub meets : List ℕ → Bool
  pub touches : ℕ → ℕ → Bool
  pub narrowed : List Row → Board

-- A family: its rules, numbered from 0.
pub record Meaning : Type 0 where
  pub size : ℕ
  pub rule : ℕ → Rule

-- the rule that touches nothing, is met by every filling and is quiet
abbrev pub idle : Rule
idle = record { meets = λ _. true; touches = λ _ _. false; narrowed = λ a. cells a }

abbrev pub narrowing : Rule → Board → Board
narrowing u void = void
narrowing u (cells a) = u.narrowed a

-- in each cell that the rule touches, P of the two rows
abbrev pub Touched : Rule → List Row → List Row → (Row → Row → Type 0) → Type 0
Touched u a b P = (c : ℕ) → c < length a → u.touches (length a) c ≡ true → P (slice_index_or a c none_row) (slice_index_or b c none_row)

abbrev pub Untouched : Rule → List Row → List Row → Type 0
Untouched u a b = (c : ℕ) → c < length a → u.touches (length a) c ≡ false → slice_index_or a c none_row ≡ slice_index_or b c none_row

abbrev pub Alike : Rule → Board → Board → Type 0
Alike u void void = Unit {0}
Alike u void (cells h) = ⊥
Alike u (cells g) void = ⊥
Alike u (cells g) (cells h) = Touched u g h (λ x y. x ≡ y)

-- The five laws of a rule; the fifth has three parts, and `real` says that a narrowing is a board.
pub record Laws (u : Rule) : Type 0 where
  pub real : (a : List Row) → sound a ≡ true → Real (u.narrowed a)
  -- 1: the narrowing lies within the board
  pub within : (a : List Row) → sound a ≡ true → Within (u.narrowed a) (cells a)
  -- 2: it is monotone
  pub monotone : (a b : List Row) → sound a ≡ true → sound b ≡ true → Within (cells a) (cells b)
      → Within (u.narrowed a) (u.narrowed b)
  -- 3: it keeps every filling that meets the rule
  pub keeps : (a : List Row) (p : List ℕ) → sound a ≡ true → Lies p (cells a) → u.meets p ≡ true → Lies p (u.narrowed a)
  -- 4: on fixed touched cells it is void exactly when the rule is not met
  pub decides : (a : List Row) (p : List ℕ) → sound a ≡ true → Lies p (cells a) → Touched u a a (λ x y. x.low ≡ x.high)
      → (u.narrowed a ≡ void → u.meets p ≡ false) × (u.meets p ≡ false → u.narrowed a ≡ void)
  -- 5: it depends on, and changes, touched cells alone
  pub local_meets : (p q : List ℕ) → length p ≡ length q
      → ((c : ℕ) → c < length p → u.touches (length p) c ≡ true → slice_index p c ≡ slice_index q c) → u.meets p ≡ u.meets q
  pub local_frame : (a g : List Row) → sound a ≡ true → u.narrowed a ≡ cells g → Untouched u a g
  pub local_end : (a b : List Row) → sound a ≡ true → sound b ≡ true → length a ≡ length b → Touched u a b (λ x y. x ≡ y)
      → Alike u (u.narrowed a) (u.narrowed b)

-- A lawful family has at most 4,096 rules, each with the five laws, and nothing at the numbers past them.
pub record FiveLaws (m : Meaning) : Type 0 where
  pub few : m.size ≤ 4096
  pub each : (r : ℕ) → Laws (m.rule r)
  pub beyond : (r : ℕ) → m.size ≤ r → m.rule r ≡ idle

-- rows that it has narrowed it narrows no further
abbrev pub Idempotent : Rule → Type 0
Idempotent u = (a b : List Row) → sound a ≡ true → u.narrowed a ≡ cells b → u.narrowed b ≡ cells b
