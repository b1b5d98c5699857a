-- The narrowed rows of a mirror in closed form, and that they are exact.
use Rattle.std.proofs.Common.{◌≡◌, ℕ, zero, suc, ◌+◌, ◌-◌, ◌≤◌, min, max, true, cond, List, [], ◌∷◌, length, refl, ap, ◌∙◌, arith}
use Rattle.std.proofs.lemmas.Bool.{leb-true, le-leb}
use Rattle.bounds.specs.declared.row.Row.{Row}
use Rattle.bounds.specs.Boards.{void, cells, sound, Fills}
use Rattle.bounds.specs.Cells.{common}
use Rattle.bounds.specs.Exact.{exact}
use Rattle.bounds.proofs.Places.{sound_at}
use Rattle.bounds.proofs.Hulls.{Meeting}
use Rattle.rules.proofs.Rows.{two, as_two, row_at, Cut}
use Rattle.rules.proofs.Reached.{In, Reached, exact_reached}
use Rattle.house.specs.Mirrors.{alike}

-- g and h are the rows a and b, each cut to the other's low less `most` and its high and `most`
module _ (most : ℕ) (a b g h : Row) (left : Cut g a (b.low - most) (b.high + most)) (right : Cut h b (a.low - most) (a.high + most)) where
  -- every filling that meets the mirror lies in the new rows
  held : (p : List ℕ) → Meeting (alike most) (two a b) p → Fills p (two g h)
  held [] m = absurd m.0
  held (x ∷ []) m = absurd m.0.2
  held (x ∷ (y ∷ [])) m = let e = leb-true (max x y - min x y) most m.1 in (omega arith, omega arith, (omega arith, omega arith, tt))
  held (x ∷ (y ∷ (z ∷ p))) m = absurd m.0.2.2

  meeting : (x y : ℕ) → In x a → In y b → max x y - min x y ≤ most → Meeting (alike most) (two a b) (two x y)
  meeting x y i j l = ((omega arith, omega arith, (omega arith, omega arith, tt)), le-leb (max x y - min x y) most l)

  -- the count of b that is nearest to one of g, and of a to one of h
  pub reached : sound (two g h) ≡ true → Reached (alike most) (two a b) (two g h)
  reached s zero l x i = let t = sound_at (two g h) s 1 (omega arith) in let y = max b.low (min x b.high) in (two x y, meeting x y (omega arith) (omega arith) (omega arith), refl)
  reached s (suc zero) l y i = let t = sound_at (two g h) s 0 (omega arith) in let x = max a.low (min y a.high) in (two x y, meeting x y (omega arith) (omega arith) (omega arith), refl)
  reached s (suc (suc c)) l n i = absurd (omega arith)

  pub mirror_exact : exact (alike most) (two a b) ≡ cond (sound (two g h)) (cells (two g h)) void
  mirror_exact = exact_reached (alike most) (two a b) (two g h) (omega arith) held reached

-- the same of the rows of an array
pub mirror_array : (most : ℕ) (rows : List Row) → length rows ≡ 2
    → let a = row_at rows 0 in let b = row_at rows 1 in let g = common a (b.low - most) (b.high + most) in let h = common b (a.low - most) (a.high + most) in
    exact (alike most) rows ≡ cond (sound (two g h)) (cells (two g h)) void
mirror_array most rows e = ap (exact (alike most)) (as_two rows e) ∙ mirror_exact most (row_at rows 0) (row_at rows 1) _ _ (refl, refl) (refl, refl)
