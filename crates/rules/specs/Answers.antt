-- Narrowed rows as an answer.
use Rattle.std.specs.Prelude.{List, Option, Some, None}
use Rattle.bounds.specs.declared.row.Row.{Row}
use Rattle.bounds.specs.Boards.{Board, void, cells}

-- the board that an answer stands for: none is void
abbrev pub board_of : Option (List Row) → Board
board_of None = void
board_of (Some g) = cells g
