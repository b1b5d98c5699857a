-- Plates worked out from the definitions alone: the bytes of a record, the rows of a board, and what is left of them.
use Rattle.std.specs.Prelude.{◌≡◌, ℕ, true, List, [], ◌∷◌}
use Rattle.bounds.specs.declared.row.Row.{Row}
use Rattle.bounds.specs.Boards.{Board, void, cells, sound}
use Rattle.bounds.specs.Exact.{exact}
use Rattle.bounds.specs.Scoped.{distinct, on_board}
use Rattle.plates.specs.Plates.{plate_rule, plates}

abbrev row : ℕ → ℕ → Row
row l h = record { low = l; high = h }

-- the narrowing by the plate at the file's start
abbrev pub narrowed_by : List ℕ → List Row → Board
narrowed_by file = ((plates file (0 ∷ [])).rule 0).narrowed

-- the slots in cell 3, the variety in cell 4, and three counts in the cells from 0 on
abbrev pub three_designs : List ℕ
three_designs = 3 ∷ 0 ∷ 4 ∷ 0 ∷ 3 ∷ 0 ∷ 0 ∷ 0 ∷ 1 ∷ 0 ∷ 2 ∷ 0 ∷ []

-- a design that is surely there has to be the only one
abbrev pub one_alone : List Row
one_alone = row 2 2 ∷ row 0 2 ∷ row 0 1 ∷ row 2 5 ∷ row 1 1 ∷ []

abbrev pub others_out : List Row
others_out = row 2 2 ∷ row 0 0 ∷ row 0 0 ∷ row 2 2 ∷ row 1 1 ∷ []

abbrev pub OneAlone : Type 0
OneAlone = narrowed_by three_designs one_alone ≡ cells others_out

-- any two of three designs
abbrev pub two_of_three : List Row
two_of_three = row 0 2 ∷ row 0 2 ∷ row 0 2 ∷ row 3 3 ∷ row 2 2 ∷ []

abbrev pub TwoOfThree : Type 0
TwoOfThree = narrowed_by three_designs two_of_three ≡ cells two_of_three

-- the slots in cell 2, the variety in cell 3, and two counts in the cells from 0 on
abbrev pub two_designs : List ℕ
two_designs = 2 ∷ 0 ∷ 3 ∷ 0 ∷ 2 ∷ 0 ∷ 0 ∷ 0 ∷ 1 ∷ 0 ∷ []

-- two copies of one design, which has one at most
abbrev pub too_few : List Row
too_few = row 0 1 ∷ row 0 1 ∷ row 2 2 ∷ row 1 1 ∷ []

abbrev pub TooFew : Type 0
TooFew = narrowed_by two_designs too_few ≡ void

-- On every sound board, a plate that names no cell twice is narrowed to the hull of the board's fillings that meet it.
abbrev pub PlatesAreExact : Type 0
PlatesAreExact = (file : List ℕ) (place : ℕ) (a : List Row) → distinct (plate_rule file place).scope ≡ true → sound a ≡ true
    → (on_board (plate_rule file place)).narrowed a ≡ exact (on_board (plate_rule file place)).meets a
