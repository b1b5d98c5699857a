-- A rule that names its cells one by one: what it asks of their counts and how it narrows their rows, on any board.
use Rattle.std.specs.Prelude.{◌≡◌, ℕ, Bool, true, false, cond, not, ◌&&◌, List, [], ◌∷◌, length, ◌==◌, nat_lt, slice_index_or, slice_set}
use Rattle.bounds.specs.declared.row.Row.{Row}
use Rattle.bounds.specs.Boards.{Board, void, cells, sound, Real, Within, Lies, Fixed, none_row}
use Rattle.bounds.specs.Laws.{Rule}
use Rattle.bounds.specs.Exact.{exact}

-- A constraint over its own cells: `scope` has their numbers, `relation` is over their counts in that order,
-- and `narrowing` takes their rows.
pub record Scoped : Type 0 where
  pub scope : List ℕ
  pub relation : List ℕ → Bool
  pub narrowing : List Row → Board

-- every cell of the scope is one of the n cells
abbrev pub fits : List ℕ → ℕ → Bool
fits [] n = true
fits (c ∷ cs) n = nat_lt c n && fits cs n

abbrev pub names : List ℕ → ℕ → Bool
names [] c = false
names (x ∷ xs) c = cond (x == c) true (names xs c)

abbrev pub distinct : List ℕ → Bool
distinct [] = true
distinct (x ∷ xs) = not (names xs x) && distinct xs

-- what stands at the cells of the scope, in its order
abbrev pub gather : {A : Type 0} → A → List ℕ → List A → List A
gather d [] xs = []
gather d (c ∷ cs) xs = slice_index_or xs c d ∷ gather d cs xs

-- and written back there
abbrev pub scatter : {A : Type 0} → List ℕ → List A → List A → List A
scatter [] ys xs = xs
scatter (c ∷ cs) [] xs = xs
scatter (c ∷ cs) (y ∷ ys) xs = scatter cs ys (slice_set xs c y)

abbrev pub put : List ℕ → Board → List Row → Board
put cs void a = void
put cs (cells g) a = cells (scatter cs g a)

-- the rule on a whole board; one that names a missing cell is idle
abbrev pub on_board : Scoped → Rule
on_board s = record {
  meets = λ p. cond (fits s.scope (length p)) (s.relation (gather 0 s.scope p)) true;
  touches = λ n c. fits s.scope n && names s.scope c;
  narrowed = λ a. cond (fits s.scope (length a)) (put s.scope (s.narrowing (gather none_row s.scope a)) a) (cells a);
}

-- what the narrowing of the rows of the scope owes, for the rule on a board to have the five laws
pub record ScopedLaws (s : Scoped) : Type 0 where
  pub real : (a : List Row) → length a ≡ length s.scope → sound a ≡ true → Real (s.narrowing a)
  pub within : (a : List Row) → length a ≡ length s.scope → sound a ≡ true → Within (s.narrowing a) (cells a)
  pub monotone : (a b : List Row) → length a ≡ length s.scope → length b ≡ length s.scope → sound a ≡ true → sound b ≡ true
      → Within (cells a) (cells b) → Within (s.narrowing a) (s.narrowing b)
  pub keeps : (a : List Row) (p : List ℕ) → length a ≡ length s.scope → sound a ≡ true → Lies p (cells a)
      → s.relation p ≡ true → Lies p (s.narrowing a)
  pub rejects : (a : List Row) (p : List ℕ) → length a ≡ length s.scope → Fixed a p → s.relation p ≡ false → s.narrowing a ≡ void

-- narrowed exactly
abbrev pub exact_on : List ℕ → (List ℕ → Bool) → Scoped
exact_on scope relation = record { scope = scope; relation = relation; narrowing = exact relation }
