-- Cells as rows, and the counts that a row has in common with a range.
use Rattle.std.specs.Prelude.{ℕ, min, max}
use Rattle.bounds.specs.declared.row.Row.{Row}
use Rattle.bounds.specs.declared.cell.Cell.{Cell}

abbrev pub row_of : Cell → Row
row_of c = record { low = c.low; high = c.high }

abbrev pub common : Row → ℕ → ℕ → Row
common r l h = record { low = max r.low l; high = min r.high h }
