-- What `exact` is.
use Rattle.std.proofs.Common.{◌≡◌, ℕ, ◌<◌, Bool, true, cond, ◌↔◌, List, length, get_or, sym, ◌∙◌, subst}
use Rattle.std.proofs.lemmas.Bool.{cond_both, both_ways}
use Rattle.bounds.specs.declared.row.Row.{Row}
use Rattle.bounds.specs.Boards.{void, cells, sound, Inside, Fills}
use Rattle.bounds.specs.Exact.{exact}
use Rattle.bounds.proofs.Places.{low_at, high_at, fills_length, fills_sound, fills_inside}
use Rattle.bounds.proofs.Hulls.{Tight, Hull, Meeting, exact_is, narrowest, hull_one, tight_same}

module _ (meets : List ℕ → Bool) (a : List Row) where
  pub exact_void : (exact meets a ≡ void) ↔ ((p : List ℕ) → Meeting meets a p → ⊥)
  exact_void = (λ e. subst (Hull (Meeting meets a)) e (exact_is meets a), λ h. hull_one (Meeting meets a) (exact meets a) void (exact_is meets a) h)

  pub exact_cells : (g : List Row) → (exact meets a ≡ cells g) ↔ Tight (Meeting meets a) g
  exact_cells g = (λ e. subst (Hull (Meeting meets a)) e (exact_is meets a), λ t. hull_one (Meeting meets a) (exact meets a) (cells g) (exact_is meets a) t)

  -- on a board with a cell, any low is the count of a meeting filling, so there is one
  pub exact_unique : (g : List Row) → 0 < length g → ((p : List ℕ) → Meeting meets a p → Fills p g)
      → ((c : ℕ) → c < length g → (p : List ℕ) × Meeting meets a p × (get_or p c 0 ≡ low_at g c))
      → ((c : ℕ) → c < length g → (p : List ℕ) × Meeting meets a p × (get_or p c 0 ≡ high_at g c))
      → exact meets a ≡ cells g
  exact_unique g some holds lowest highest = (exact_cells g).1
      (record { one = let (p, m, e) = lowest 0 some in (p, m); holds = holds; lowest = lowest; highest = highest })

  -- a closed form: rows that hold every meeting filling, and that are tight if they are sound
  pub exact_by : (g : List Row) → ((p : List ℕ) → Meeting meets a p → Fills p g) → (sound g ≡ true → Tight (Meeting meets a) g)
      → exact meets a ≡ cond (sound g) (cells g) void
  exact_by g holds tight = cond_both (sound g) (cells g) void (λ b. exact meets a ≡ b)
      (λ s. (exact_cells g).1 (tight s))
      (λ s. exact_void.1 (λ p m. both_ways (sound g) s (fills_sound p g (holds p m))))

  module _ (g : List Row) (t : Tight (Meeting meets a) g) where
    pub tight_inside : Inside g a
    tight_inside = narrowest (Meeting meets a) (cells g) (cells a) t (λ p m. m.0)

    pub tight_length : length g ≡ length a
    tight_length = sym (fills_length _ g (t.holds _ t.one.1)) ∙ fills_length _ a t.one.1.0

-- rows that hold the meeting fillings of the rows before, and are tight, are tight for their own
pub exact_again : (meets : List ℕ → Bool) (a g : List Row) → exact meets a ≡ cells g → exact meets g ≡ cells g
exact_again meets a g e = let t = (exact_cells meets a g).0 e in
    (exact_cells meets g g).1 (tight_same (Meeting meets a) (Meeting meets g) (λ p m. (t.holds p m, m.1)) g
    (λ p m. (fills_inside p g a (tight_inside meets a g t) m.0, m.1)) t)
