-- The records of the four kinds of body, as they stand in the file's bytes from a place on.
use Rattle.std.specs.Prelude.{ℕ, zero, suc, ◌+◌, List, [], ◌∷◌}
use Rattle.bounds.specs.declared.row.Row.{Row}
use Rattle.records.specs.Bytes.{number}

-- 4 bytes: the bounds of a cell
abbrev pub bounds_at : List ℕ → ℕ → Row
bounds_at f i = record { low = number 2 f i; high = number 2 f (i + 2) }

-- k numbers of two bytes
abbrev pub numbers : ℕ → List ℕ → ℕ → List ℕ
numbers zero f i = []
numbers (suc k) f i = number 2 f i ∷ numbers k f (i + 2)

-- a head of 6 bytes and 2 for each count cell
pub record Plate : Type 0 where
  pub slots : ℕ
  pub variety : ℕ
  pub counts : List ℕ

abbrev pub plate_at : List ℕ → ℕ → Plate
plate_at f i = record { slots = number 2 f i; variety = number 2 f (i + 2); counts = numbers (number 2 f (i + 4)) f (i + 6) }

-- 8 bytes
pub record Triple : Type 0 where
  pub kind : ℕ
  pub a : ℕ
  pub b : ℕ
  pub c : ℕ

abbrev pub triple_at : List ℕ → ℕ → Triple
triple_at f i = record { kind = number 2 f i; a = number 2 f (i + 2); b = number 2 f (i + 4); c = number 2 f (i + 6) }

pub record Term : Type 0 where
  pub cell : ℕ
  pub weight : ℕ

abbrev pub terms : ℕ → List ℕ → ℕ → List Term
terms zero f i = []
terms (suc k) f i = record { cell = number 2 f i; weight = number 4 f (i + 2) } ∷ terms k f (i + 6)

-- a head of 18 bytes and 6 for each cell
pub record Total : Type 0 where
  pub floor : ℕ
  pub ceiling : ℕ
  pub terms : List Term

abbrev pub total_at : List ℕ → ℕ → Total
total_at f i = record { floor = number 8 f (i + 2); ceiling = number 8 f (i + 10); terms = terms (number 2 f i) f (i + 18) }
