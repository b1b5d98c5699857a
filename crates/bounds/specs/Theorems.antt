-- The laws of exact narrowing, as statements.
use Rattle.std.specs.Prelude.{◌≡◌, ℕ, ◌<◌, Bool, true, List, length, slice_index, slice_index_or}
use Rattle.bounds.specs.declared.row.Row.{Row}
use Rattle.bounds.specs.Boards.{cells, sound, Fills, none_row}
use Rattle.bounds.specs.Laws.{Meaning, Laws, FiveLaws}
use Rattle.bounds.specs.Exact.{exact, exactly, Local}
use Rattle.bounds.specs.Scoped.{Scoped, ScopedLaws, distinct, on_board, exact_on}
use Rattle.bounds.specs.Beside.{beside}

-- the filling of the rows meets the rule
abbrev pub Meeting : (List ℕ → Bool) → List Row → List ℕ → Type 0
Meeting meets a p = Fills p a × (meets p ≡ true)

-- some meeting filling has the count in the cell
abbrev pub Attained : (List ℕ → Bool) → List Row → ℕ → ℕ → Type 0
Attained meets a c n = (p : List ℕ) × Meeting meets a p × (slice_index p c ≡ n)

-- An exact rule that depends on its touched cells alone has the five laws.
abbrev pub ExactIsLawful : Type 0
ExactIsLawful = (meets : List ℕ → Bool) (touches : ℕ → ℕ → Bool) → Local meets touches → Laws (exactly meets touches)

-- On a board with a cell, rows that hold every meeting filling, and each of whose bounds one of them attains, are the exact narrowing.
abbrev pub ExactIsUnique : Type 0
ExactIsUnique = (meets : List ℕ → Bool) (a g : List Row) → 0 < length g
    → ((p : List ℕ) → Meeting meets a p → Fills p g)
    → ((c : ℕ) → c < length g → Attained meets a c (slice_index_or g c none_row).low)
    → ((c : ℕ) → c < length g → Attained meets a c (slice_index_or g c none_row).high)
    → exact meets a ≡ cells g

-- Two lawful families side by side are a lawful family.
abbrev pub BesideIsLawful : Type 0
BesideIsLawful = (a b : Meaning) → FiveLaws a → FiveLaws b → FiveLaws (beside a b)

-- A rule whose narrowing of its own cells is lawful is lawful on every board, whatever cells it names.
abbrev pub LiftedIsLawful : Type 0
LiftedIsLawful = (s : Scoped) → ScopedLaws s → Laws (on_board s)

-- One that narrows its own cells exactly and names none twice narrows every board exactly.
abbrev pub LiftedIsExact : Type 0
LiftedIsExact = (scope : List ℕ) (relation : List ℕ → Bool) (a : List Row) → distinct scope ≡ true → sound a ≡ true
    → (on_board (exact_on scope relation)).narrowed a ≡ exact (on_board (exact_on scope relation)).meets a
