-- Exact narrowing: the hull of the fillings that meet a rule.
use Rattle.std.specs.Prelude.{◌≡◌, ℕ, zero, suc, ◌+◌, ◌-◌, ◌<◌, min, max, Bool, true, cond, List, [], ◌∷◌, ◌++◌, map, length, slice_index}
use Rattle.bounds.specs.declared.row.Row.{Row}
use Rattle.bounds.specs.Boards.{Board, void, cells}
use Rattle.bounds.specs.Laws.{Rule}

-- n counts from low
abbrev pub counts : ℕ → ℕ → List ℕ
counts low zero = []
counts low (suc n) = low ∷ counts (low + 1) n

abbrev pub each : List ℕ → List (List ℕ) → List (List ℕ)
each [] ps = []
each (c ∷ cs) ps = map (λ p. c ∷ p) ps ++ each cs ps

-- every filling in the rows
abbrev pub fillings : List Row → List (List ℕ)
fillings [] = [] ∷ []
fillings (r ∷ rs) = each (counts r.low ((r.high + 1) - r.low)) (fillings rs)

abbrev pub only : (List ℕ → Bool) → List (List ℕ) → List (List ℕ)
only meets [] = []
only meets (p ∷ ps) = cond (meets p) (p ∷ only meets ps) (only meets ps)

abbrev pub point : List ℕ → List Row
point [] = []
point (n ∷ ns) = record { low = n; high = n } ∷ point ns

abbrev pub join : List ℕ → List Row → List Row
join [] rs = []
join (n ∷ ns) [] = []
join (n ∷ ns) (r ∷ rs) = record { low = min n r.low; high = max n r.high } ∷ join ns rs

abbrev pub widen : List ℕ → Board → Board
widen p void = cells (point p)
widen p (cells rs) = cells (join p rs)

-- the narrowest board that holds all of them
abbrev pub hull : List (List ℕ) → Board
hull [] = void
hull (p ∷ ps) = widen p (hull ps)

abbrev pub exact : (List ℕ → Bool) → List Row → Board
exact meets rows = hull (only meets (fillings rows))

-- whether a filling meets the rule depends on the touched cells alone
abbrev pub Local : (List ℕ → Bool) → (ℕ → ℕ → Bool) → Type 0
Local meets touches = (p q : List ℕ) → length p ≡ length q
    → ((c : ℕ) → c < length p → touches (length p) c ≡ true → slice_index p c ≡ slice_index q c) → meets p ≡ meets q

abbrev pub exactly : (List ℕ → Bool) → (ℕ → ℕ → Bool) → Rule
exactly meets touches = record { meets = meets; touches = touches; narrowed = exact meets }
