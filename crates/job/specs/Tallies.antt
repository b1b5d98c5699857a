-- What a tally and the table of rules hold.
use Rattle.std.specs.Prelude.{ℕ, zero, suc, ◌+◌, ◌-◌, cond, List, [], ◌∷◌, take, drop, ◌==◌, nat_le}
use Rattle.bounds.specs.declared.row.Row.{Row}
use Rattle.records.specs.Forms.{between}
use Rattle.records.specs.Records.{bounds_at}
use Rattle.job.specs.declared.tally.Tally.{Tally}
use Rattle.job.specs.Reading.{Found}

-- the places of n cells of 4 bytes
abbrev pub spaced : ℕ → ℕ → List ℕ
spaced zero i = []
spaced (suc n) i = i ∷ spaced n (i + 4)

abbrev pub held : Tally → List ℕ → Found
held t table = record {
  cells = spaced t.cells t.start;
  plates = take t.plates table;
  triples = drop t.plates (take t.triples table);
  totals = drop t.triples (take t.totals table);
}

abbrev pub no_tally : Tally
no_tally = record { start = 0; cells = 0; plates = 0; triples = 0; totals = 0 }

-- with the records of a body of a kind, which end in the table at `end`
abbrev pub tallied : Tally → ℕ → ℕ → ℕ → Tally
tallied t kind start end = record {
  start = cond (kind == 1) start t.start;
  cells = cond (kind == 1) (end - t.totals) t.cells;
  plates = cond (kind == 2) end t.plates;
  triples = cond (between 2 3 kind) end t.triples;
  totals = cond (nat_le 2 kind) end t.totals;
}

-- the row of the cell whose record stands at a place
abbrev pub row_at : List ℕ → ℕ → Row
row_at = bounds_at
