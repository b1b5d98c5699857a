-- Stated of what this crate defines, and used by none of its proofs.
use Rattle.std.proofs.Common.{◌≡◌, ℕ, ◌+◌, ◌-◌, ◌<◌, ◌≤◌, min, max, true, false, ◌⊎◌, List, [], ◌∷◌, length, get_or, set, sym, refl, ap, ap₂, ◌∙◌, inl, inr, arith}
use Rattle.std.proofs.lemmas.Bool.{cond-true, cond-false, le-leb, lt-leb, and_from, and_left, and_right}
use Rattle.bounds.specs.declared.row.Row.{Row}
use Rattle.bounds.specs.Boards.{void, cells, sound, none_row}
use Rattle.bounds.specs.Cells.{common}
use Rattle.bounds.specs.Exact.{exact}
use Rattle.bounds.specs.Theorems.{Attained}
use Rattle.rules.proofs.Rows.{two, as_two}
use Rattle.rules.proofs.Reached.{In}
use Rattle.house.specs.Mirrors.{alike}
use Rattle.house.proofs.Closed.{reached, mirror_exact}

-- g has the counts of the row a from b's low less `most` to b's high and `most`
abbrev pub Near : ℕ → Row → Row → Row → Type 0
Near most a b g = (g.low ≡ max a.low (b.low - most)) × (g.high ≡ min a.high (b.high + most))

pub near_is : (most : ℕ) (a b g : Row) → g ≡ common a (b.low - most) (b.high + most) → Near most a b g
near_is most a b g e = (ap (λ r. r.low) e, ap (λ r. r.high) e)

module _ (most : ℕ) (a b g h : Row) (left : Near most a b g) (right : Near most b a h) where
  -- where one of the new rows is empty, no filling meets the mirror
  pub closed_void : (g.high < g.low) ⊎ (h.high < h.low) → exact (alike most) (two a b) ≡ void
  closed_void e = mirror_exact most a b g h left right ∙ cond-false _ _ _ (unsound e)
    where
      unsound : (g.high < g.low) ⊎ (h.high < h.low) → sound (two g h) ≡ false
      unsound (inl l) = and_left _ _ (lt-leb g.low g.high l)
      unsound (inr l) = and_right _ _ (and_left _ true (lt-leb h.low h.high l))

  module _ (some_left : g.low ≤ g.high) (some_right : h.low ≤ h.high) where
    both : sound (two g h) ≡ true
    both = and_from _ _ (le-leb g.low g.high some_left) (and_from _ true (le-leb h.low h.high some_right) refl)

    pub closed_cells : exact (alike most) (two a b) ≡ cells (two g h)
    closed_cells = mirror_exact most a b g h left right ∙ cond-true _ _ _ both

    -- any count of a new row is that of a filling that meets the mirror
    at_left : (x : ℕ) → In x g → Attained (alike most) (two a b) 0 x
    at_left x i = reached most a b g h left right both 0 (omega arith) x i

    at_right : (y : ℕ) → In y h → Attained (alike most) (two a b) 1 y
    at_right y i = reached most a b g h left right both 1 (omega arith) y i

-- both written over
pub set_two : (a : List Row) (x y : Row) → length a ≡ 2 → set (set a 0 x) 1 y ≡ two x y
set_two [] x y e = absurd (omega arith)
set_two (r ∷ []) x y e = absurd (omega arith)
set_two (r ∷ (s ∷ [])) x y e = refl
set_two (r ∷ (s ∷ (t ∷ a))) x y e = absurd (omega arith)

pub same_two : (a : List Row) (x y : Row) → length a ≡ 2 → x ≡ get_or a 0 none_row → y ≡ get_or a 1 none_row → two x y ≡ a
same_two a x y e l r = ap₂ two l r ∙ sym (as_two a e)
