-- Two rows or three as a list, and a row cut to a range.
use Rattle.std.proofs.Common.{◌≡◌, ℕ, min, max, List, [], ◌∷◌, length, get_or, refl, arith}
use Rattle.bounds.specs.declared.row.Row.{Row}
use Rattle.bounds.specs.Boards.{none_row}

abbrev pub two : {A : Type 0} → A → A → List A
two x y = x ∷ (y ∷ [])

abbrev pub three : {A : Type 0} → A → A → A → List A
three x y z = x ∷ (y ∷ (z ∷ []))

pub as_two : (a : List Row) → length a ≡ 2 → a ≡ two (get_or a 0 none_row) (get_or a 1 none_row)
as_two [] e = absurd (omega arith)
as_two (x ∷ []) e = absurd (omega arith)
as_two (x ∷ (y ∷ [])) e = refl
as_two (x ∷ (y ∷ (z ∷ a))) e = absurd (omega arith)

pub as_three : (a : List Row) → length a ≡ 3 → a ≡ three (get_or a 0 none_row) (get_or a 1 none_row) (get_or a 2 none_row)
as_three [] e = absurd (omega arith)
as_three (x ∷ []) e = absurd (omega arith)
as_three (x ∷ (y ∷ [])) e = absurd (omega arith)
as_three (x ∷ (y ∷ (z ∷ []))) e = refl
as_three (x ∷ (y ∷ (z ∷ (w ∷ a)))) e = absurd (omega arith)

abbrev pub row_at : List Row → ℕ → Row
row_at a i = get_or a i none_row

-- the bounds of g are those of a, cut to l and h
abbrev pub Cut : Row → Row → ℕ → ℕ → Type 0
Cut g a l h = (g.low ≡ max a.low l) × (g.high ≡ min a.high h)
