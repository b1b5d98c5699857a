-- The cells that a rule touches, as marks.
use Rattle.std.specs.Prelude.{◌≡◌, ℕ, ◌<◌, ◌≤◌, ◌||◌, Bool, false, List, length, take, slice_index_or, Option, Some, None}
use Rattle.bounds.specs.Laws.{Rule}
use Rattle.bounds.specs.Scoped.{names}

-- besides the cells that were marked those are that the rule touches, on a board of so many cells
abbrev pub Marks : Rule → List Bool → List Bool → Type 0
Marks u p q = (c : ℕ) → c < length p → slice_index_or q c false ≡ (slice_index_or p c false || u.touches (length p) c)

-- and the cells that are named
abbrev pub MarksNamed : List ℕ → List Bool → List Bool → Type 0
MarksNamed cs p q = (c : ℕ) → c < length p → slice_index_or q c false ≡ (slice_index_or p c false || names cs c)

-- where there is room for them, the cells of n that the rule touches stand at its front, and no others
abbrev pub Lists : Rule → ℕ → List ℕ → Option ℕ → Type 0
Lists u n room None = Unit {0}
Lists u n room (Some k) =
    (k ≤ length room) × ((i : ℕ) → i < k → slice_index_or room i 0 < n) × ((c : ℕ) → c < n → u.touches n c ≡ names (take k room) c)
