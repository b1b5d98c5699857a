-- Stated of the open cells, and used by none of this crate's proofs.
use Rattle.std.proofs.Common.{◌≤◌, ltb, List, length}
use Rattle.std.proofs.lemmas.List.Sums.{count_by-le-length}
use Rattle.bounds.specs.declared.row.Row.{Row}
use Rattle.search.specs.Seeks.{opens}

pub opens_length : (a : List Row) → opens a ≤ length a
opens_length a = count_by-le-length (λ (r : Row). ltb r.low r.high) a
