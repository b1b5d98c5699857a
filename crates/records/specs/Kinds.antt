-- The numbers of the kinds of body, and of triple.
use Rattle.std.specs.Prelude.{ℕ, cond, Some, None, Option, ◌==◌}
use Rattle.records.specs.declared.kind.Kind.{Kind}
use Rattle.records.specs.declared.kind.Kind.TheVariants.{Cells, Plates, Triples, Totals}
use Rattle.records.specs.declared.triples.TripleKind.{TripleKind}
use Rattle.records.specs.declared.triples.TripleKind.TheVariants.{Union, Intersection, UnionPlus, Subset}

abbrev pub kind_number : Kind → ℕ
kind_number Cells = 1
kind_number Plates = 2
kind_number Triples = 3
kind_number Totals = 4

abbrev pub triple_kind : ℕ → Option TripleKind
triple_kind n = cond (n == 1) (Some Union) (cond (n == 2) (Some Intersection)
    (cond (n == 3) (Some UnionPlus) (cond (n == 4) (Some Subset) None)))

-- how many cells a triple of the kind ties together
abbrev pub tied : TripleKind → ℕ
tied Union = 3
tied Intersection = 3
tied UnionPlus = 3
tied Subset = 2
