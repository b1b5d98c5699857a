-- What the four kinds of body hold.
use Rattle.std.specs.Prelude.{ℕ, ◌+◌, ◌*◌, Bool, true, cond, ◌&&◌, List, [], ◌∷◌, length, ◌==◌, nat_le}
use Rattle.records.specs.Records.{Plate, plate_at, Triple, triple_at, Term, Total, total_at, bounds_at}

-- A kind of body: of the record at a place of the bytes its length, with its count as written, whether its fields
-- keep their limits, and the cells that it names.
pub record Form : Type 0 where
  pub kind : ℕ
  pub size : List ℕ → ℕ → ℕ
  pub limits : List ℕ → ℕ → Bool
  pub names : List ℕ → ℕ → List ℕ

abbrev pub between : ℕ → ℕ → ℕ → Bool
between low high n = nat_le low n && nat_le n high

abbrev pub plate_names : Plate → List ℕ
plate_names p = p.slots ∷ p.variety ∷ p.counts

-- a subset, kind 4, has no third cell
abbrev pub triple_names : Triple → List ℕ
triple_names t = t.a ∷ t.b ∷ cond (t.kind == 4) [] (t.c ∷ [])

abbrev pub term_cells : List Term → List ℕ
term_cells [] = []
term_cells (t ∷ ts) = t.cell ∷ term_cells ts

abbrev pub weighted : List Term → Bool
weighted [] = true
weighted (t ∷ ts) = between 1 1000000 t.weight && weighted ts

abbrev pub triple_limits : Triple → Bool
triple_limits t = between 1 4 t.kind && cond (t.kind == 4) (t.c == 65535) true

abbrev pub total_limits : Total → Bool
total_limits t = between 1 64 (length t.terms) && (nat_le t.floor t.ceiling && (nat_le t.ceiling 10000000000000 && weighted t.terms))

abbrev pub cells_form : Form
cells_form = record {
  kind = 1;
  size = λ b i. 4;
  limits = λ b i. nat_le (bounds_at b i).low (bounds_at b i).high;
  names = λ b i. [];
}

abbrev pub plates_form : Form
plates_form = record {
  kind = 2;
  size = λ b i. 6 + 2 * length (plate_at b i).counts;
  limits = λ b i. between 1 64 (length (plate_at b i).counts);
  names = λ b i. plate_names (plate_at b i);
}

abbrev pub triples_form : Form
triples_form = record {
  kind = 3;
  size = λ b i. 8;
  limits = λ b i. triple_limits (triple_at b i);
  names = λ b i. triple_names (triple_at b i);
}

abbrev pub totals_form : Form
totals_form = record {
  kind = 4;
  size = λ b i. 18 + 6 * length (total_at b i).terms;
  limits = λ b i. total_limits (total_at b i);
  names = λ b i. term_cells (total_at b i).terms;
}
