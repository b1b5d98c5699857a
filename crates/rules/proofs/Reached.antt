-- A closed form is exact if it holds every meeting filling and any count of its rows is that of a meeting filling.
use Rattle.std.proofs.Common.{◌≡◌, ℕ, ◌<◌, ◌≤◌, Bool, true, cond, List, length, get_or, arith}
use Rattle.bounds.specs.declared.row.Row.{Row}
use Rattle.bounds.specs.Boards.{void, cells, sound, Fills, none_row}
use Rattle.bounds.specs.Exact.{exact}
use Rattle.bounds.proofs.Places.{low_at, sound_at}
use Rattle.bounds.proofs.Hulls.{Meeting}
use Rattle.bounds.proofs.Exactly.{exact_by}

-- a count of the row
abbrev pub In : ℕ → Row → Type 0
In n r = (r.low ≤ n) × (n ≤ r.high)

module _ (meets : List ℕ → Bool) (a g : List Row) where
  -- any count of a narrowed row is that of a meeting filling
  abbrev pub Reached : Type 0
  Reached = (i : ℕ) → i < length g → (n : ℕ) → In n (get_or g i none_row) → (p : List ℕ) × Meeting meets a p × (get_or p i 0 ≡ n)

  pub exact_reached : 0 < length g → ((p : List ℕ) → Meeting meets a p → Fills p g) → (sound g ≡ true → Reached)
      → exact meets a ≡ cond (sound g) (cells g) void
  exact_reached some holds reached = exact_by meets a g holds λ s.
      let at = sound_at g s in
      let low : (i : ℕ) → i < length g → (p : List ℕ) × Meeting meets a p × (get_or p i 0 ≡ low_at g i) = λ i l. reached s i l _ (omega arith, at i l) in
      record {
        one = let (p, m, e) = low 0 some in (p, m);
        holds = holds;
        lowest = low;
        highest = λ i l. reached s i l _ (at i l, omega arith);
      }
