-- Two triples worked out.
use Rattle.std.specs.Prelude.{◌≡◌, ℕ, List, [], ◌∷◌}
use Rattle.bounds.specs.declared.row.Row.{Row}
use Rattle.bounds.specs.Boards.{Board, cells}
use Rattle.bounds.specs.Exact.{exact}
use Rattle.bounds.specs.Scoped.{on_board}
use Rattle.triples.specs.Triples.{relation, triple_rule}
use Rattle.records.specs.declared.triples.TripleKind.TheVariants.{Union, UnionPlus}

abbrev pub row : ℕ → ℕ → Row
row low high = record { low = low; high = high }

-- a union of cells 3 and 0 in cell 1 at place 2, and a union-plus of cells 0 and 1 in cell 2 at place 10
abbrev pub records : List ℕ
records = 7 ∷ (7 ∷ (1 ∷ (0 ∷ (3 ∷ (0 ∷ (0 ∷ (0 ∷ (1 ∷ (0 ∷ (3 ∷ (0 ∷ (0 ∷ (0 ∷ (1 ∷ (0 ∷ (2 ∷ (0 ∷ [])))))))))))))))))

abbrev pub union_before : List Row
union_before = row 0 5 ∷ (row 0 2 ∷ (row 3 9 ∷ []))

abbrev pub union_after : Board
union_after = cells (row 3 5 ∷ (row 0 2 ∷ (row 3 5 ∷ [])))

abbrev pub UnionDefined : Type 0
UnionDefined = exact (relation Union) union_before ≡ union_after

abbrev pub UnionRecorded : Type 0
UnionRecorded = (on_board (triple_rule records 2)).narrowed (row 0 2 ∷ (row 3 9 ∷ (row 7 8 ∷ (row 0 5 ∷ []))))
    ≡ cells (row 0 2 ∷ (row 3 5 ∷ (row 7 8 ∷ (row 3 5 ∷ []))))

abbrev pub plus_before : List Row
plus_before = row 0 3 ∷ (row 2 2 ∷ (row 4 9 ∷ []))

abbrev pub plus_after : Board
plus_after = cells (row 2 3 ∷ (row 2 2 ∷ (row 4 5 ∷ [])))

abbrev pub PlusDefined : Type 0
PlusDefined = exact (relation UnionPlus) plus_before ≡ plus_after

abbrev pub PlusRecorded : Type 0
PlusRecorded = (on_board (triple_rule records 10)).narrowed (row 0 3 ∷ (row 2 2 ∷ (row 4 9 ∷ (row 0 5 ∷ []))))
    ≡ cells (row 2 3 ∷ (row 2 2 ∷ (row 4 5 ∷ (row 0 5 ∷ []))))
