-- What the bounds of a total promise, and what they do not.
use Rattle.std.specs.Prelude.{◌≡◌, ℕ, ◌≤◌, true, ◌≢◌, List, [], ◌∷◌}
use Rattle.records.specs.Records.{Total, total_at}
use Rattle.records.specs.Forms.{term_cells}
use Rattle.bounds.specs.declared.row.Row.{Row}
use Rattle.bounds.specs.Boards.{Board, void, cells, sound, lows, highs, none_row}
use Rattle.bounds.specs.Exact.{exact}
use Rattle.bounds.specs.Scoped.{distinct, gather, on_board}
use Rattle.linear.specs.Linear.{weighed}
use Rattle.linear.specs.Totals.{weights_of, total_rule, totals}

-- what the cells of a total weigh at the lows of the board, and at its highs
abbrev pub lightest : Total → List Row → ℕ
lightest t a = weighed (weights_of t.terms) (lows (gather none_row (term_cells t.terms) a))

abbrev pub heaviest : Total → List Row → ℕ
heaviest t a = weighed (weights_of t.terms) (highs (gather none_row (term_cells t.terms) a))

-- on the board, the total at the place is narrowed to the hull of the fillings that meet it
abbrev pub NarrowedExactly : List ℕ → ℕ → List Row → Type 0
NarrowedExactly file place a = (on_board (total_rule file place)).narrowed a ≡ exact (on_board (total_rule file place)).meets a

-- The ceiling alone can bind, since the lows reach the floor: on every sound board a total that names no cell twice
-- is narrowed exactly.
abbrev pub CeilingIsExact : Type 0
CeilingIsExact = (file : List ℕ) (place : ℕ) (a : List Row) → distinct (total_rule file place).scope ≡ true → sound a ≡ true
    → (total_at file place).floor ≤ lightest (total_at file place) a → NarrowedExactly file place a

-- The floor alone can bind, since the highs stay below the ceiling.
abbrev pub FloorIsExact : Type 0
FloorIsExact = (file : List ℕ) (place : ℕ) (a : List Row) → distinct (total_rule file place).scope ≡ true → sound a ≡ true
    → heaviest (total_at file place) a ≤ (total_at file place).ceiling → NarrowedExactly file place a

abbrev row : ℕ → ℕ → Row
row l h = record { low = l; high = h }

-- the total at the start of a file
abbrev pub narrowed_by : List ℕ → List Row → Board
narrowed_by file = ((totals file (0 ∷ [])).rule 0).narrowed

-- cells 0 and 1, both of weight 2, add up to 3
abbrev pub three_by_twos : List ℕ
three_by_twos =
    2 ∷ 0 ∷ 3 ∷ 0 ∷ 0 ∷ 0 ∷ 0 ∷ 0 ∷ 0 ∷ 0 ∷ 3 ∷ 0 ∷ 0 ∷ 0 ∷ 0 ∷ 0 ∷ 0 ∷ 0
    ∷ 0 ∷ 0 ∷ 2 ∷ 0 ∷ 0 ∷ 0 ∷ 1 ∷ 0 ∷ 2 ∷ 0 ∷ 0 ∷ 0 ∷ []

abbrev pub up_to : ℕ → List Row
up_to n = row 0 n ∷ row 0 n ∷ []

abbrev pub both_one : List Row
both_one = row 1 1 ∷ row 1 1 ∷ []

-- No two counts meet it, so exact narrowing is void at once. Both limits bind, and by them the board is void only at
-- the third narrowing.
pub record BothLimitsBind : Type 0 where
  pub exactly : exact (on_board (total_rule three_by_twos 0)).meets (up_to 4) ≡ void
  pub first : narrowed_by three_by_twos (up_to 4) ≡ cells (up_to 1)
  pub second : narrowed_by three_by_twos (up_to 1) ≡ cells both_one
  pub third : narrowed_by three_by_twos both_one ≡ void
  pub other : (up_to 1 ≢ up_to 4) × (both_one ≢ up_to 1)
