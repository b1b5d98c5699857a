-- Rows, boards, fillings: the order of boards, and their width.
use Rattle.std.specs.Prelude.{◌≡◌, ℕ, ◌+◌, ◌-◌, ◌≤◌, Bool, true, List, [], ◌∷◌, nat_le, map, sum_by}
use Rattle.std.specs.List.{list_all}
use Rattle.bounds.specs.declared.row.Row.{Row}

-- A box of bounds, one row for each cell; void holds no filling.
pub data Board : Type 0 where
  void : Board
  cells : List Row → Board

-- each low is at most its high
abbrev pub sound : List Row → Bool
sound rs = list_all (λ r. nat_le r.low r.high) rs

abbrev pub Real : Board → Type 0
Real void = Unit {0}
Real (cells a) = sound a ≡ true

abbrev pub Inside : List Row → List Row → Type 0
Inside [] [] = Unit {0}
Inside [] (_ ∷ _) = ⊥
Inside (_ ∷ _) [] = ⊥
Inside (a ∷ xs) (b ∷ ys) = (b.low ≤ a.low) × (a.high ≤ b.high) × Inside xs ys

abbrev pub Within : Board → Board → Type 0
Within void b = Unit {0}
Within (cells a) void = ⊥
Within (cells a) (cells b) = Inside a b

-- A filling gives each cell one count.
abbrev pub Fills : List ℕ → List Row → Type 0
Fills [] [] = Unit {0}
Fills [] (_ ∷ _) = ⊥
Fills (_ ∷ _) [] = ⊥
Fills (n ∷ ns) (b ∷ bs) = (b.low ≤ n) × (n ≤ b.high) × Fills ns bs

abbrev pub Lies : List ℕ → Board → Type 0
Lies p void = ⊥
Lies p (cells a) = Fills p a

-- the rows have one count each, those of the filling
abbrev pub Fixed : List Row → List ℕ → Type 0
Fixed [] [] = Unit {0}
Fixed [] (_ ∷ _) = ⊥
Fixed (_ ∷ _) [] = ⊥
Fixed (r ∷ rs) (n ∷ ns) = (r.low ≡ n) × (r.high ≡ n) × Fixed rs ns

-- one more than the counts by which the highs exceed the lows
abbrev pub spread : List Row → ℕ
spread rs = sum_by (λ r. r.high - r.low) rs + 1

abbrev pub width : Board → ℕ
width void = 0
width (cells a) = spread a

abbrev pub lows : List Row → List ℕ
lows = map (λ r. r.low)

abbrev pub highs : List Row → List ℕ
highs = map (λ r. r.high)

abbrev pub none_row : Row
none_row = record { low = 0; high = 0 }
