-- Lists of rows: fillings, widths, and the cut that a tightening makes.
use Rattle.std.proofs.Common.{◌≡◌, ℕ, zero, suc, ◌+◌, ◌-◌, ◌<◌, ◌≤◌, true, leb, List, [], ◌∷◌, ◌++◌, length, get_or, take, set, refl, ap, ap₂, arith}
use Rattle.std.proofs.lemmas.List.Sums.{sum_by-cons}
use Rattle.std.proofs.lemmas.Bool.{and_parts, and_from, leb-true, le-leb}
use Rattle.bounds.specs.declared.row.Row.{Row}
use Rattle.bounds.specs.Boards.{Board, void, cells, sound, Inside, Fills, spread, width, lows, highs, none_row}
use Rattle.bounds.specs.Cells.{common}
use Rattle.bounds.proofs.Places.{same_row}

pub sound_parts : (r : Row) (rs : List Row) → sound (r ∷ rs) ≡ true → (r.low ≤ r.high) × (sound rs ≡ true)
sound_parts r rs h = let k = and_parts (leb r.low r.high) (sound rs) h in (leb-true r.low r.high k.0, k.1)

pub fills_lows : (a : List Row) → sound a ≡ true → Fills (lows a) a
fills_lows [] h = tt
fills_lows (r ∷ rs) h = let k = sound_parts r rs h in (omega arith, k.0, fills_lows rs k.1)

pub fills_highs : (a : List Row) → sound a ≡ true → Fills (highs a) a
fills_highs [] h = tt
fills_highs (r ∷ rs) h = let k = sound_parts r rs h in (k.0, omega arith, fills_highs rs k.1)

pub lows_at : (a : List Row) (c : ℕ) → get_or (lows a) c 0 ≡ (get_or a c none_row).low
lows_at [] c = refl
lows_at (r ∷ a) zero = refl
lows_at (r ∷ a) (suc c) = lows_at a c

pub highs_at : (a : List Row) (c : ℕ) → get_or (highs a) c 0 ≡ (get_or a c none_row).high
highs_at [] c = refl
highs_at (r ∷ a) zero = refl
highs_at (r ∷ a) (suc c) = highs_at a c

inside_ends : (a b : List Row) → Fills (lows a) b → Fills (highs a) b → Inside a b
inside_ends [] [] l h = tt
inside_ends [] (y ∷ b) l h = l
inside_ends (x ∷ a) [] l h = l
inside_ends (x ∷ a) (y ∷ b) l h = (l.0, h.1, inside_ends a b l.2 h.2)

pub inside_all : (a b : List Row) → sound a ≡ true → ((p : List ℕ) → Fills p a → Fills p b) → Inside a b
inside_all a b s k = inside_ends a b (k (lows a) (fills_lows a s)) (k (highs a) (fills_highs a s))

pub spread_cons : (r : Row) (rs : List Row) → spread (r ∷ rs) ≡ (r.high - r.low) + spread rs
spread_cons r rs = omega (arith, sum_by-cons (λ (x : Row). x.high - x.low) r rs)

pub spread_pos : (a : List Row) → 0 < spread a
spread_pos a = omega arith

pub spread_inside : (a b : List Row) → Inside a b → spread a ≤ spread b
spread_inside [] [] h = omega arith
spread_inside [] (y ∷ b) h = absurd h
spread_inside (x ∷ a) [] h = absurd h
spread_inside (x ∷ a) (y ∷ b) h = omega (arith, spread_cons x a, spread_cons y b, spread_inside a b h.2)

pub spread_same : (a b : List Row) → sound a ≡ true → Inside a b → spread b ≤ spread a → a ≡ b
spread_same [] [] s h k = refl
spread_same [] (y ∷ b) s h k = absurd h
spread_same (x ∷ a) [] s h k = absurd h
spread_same (x ∷ a) (y ∷ b) s h k =
    let t = sound_parts x a s in
    let w = spread_inside a b h.2 in
    let p = spread_cons x a in
    let q = spread_cons y b in
    ap₂ ◌∷◌ (same_row x y (omega arith) (omega arith)) (spread_same a b t.1 h.2 (omega arith))

-- the rows with cell c cut to the range
abbrev pub cut : List Row → ℕ → ℕ → ℕ → List Row
cut a c l h = set a c (common (get_or a c none_row) l h)

pub fills_cut : (p : List ℕ) (a : List Row) (c l h : ℕ) → Fills p a → l ≤ get_or p c 0 → get_or p c 0 ≤ h → Fills p (cut a c l h)
fills_cut p [] c l h f u v = f
fills_cut [] (x ∷ a) c l h f u v = absurd f
fills_cut (n ∷ p) (x ∷ a) zero l h f u v = (omega arith, omega arith, f.2)
fills_cut (n ∷ p) (x ∷ a) (suc c) l h f u v = (f.0, f.1, fills_cut p a c l h f.2 u v)

pub cut_fills : (p : List ℕ) (a : List Row) (c l h : ℕ) → c < length a → Fills p (cut a c l h)
    → Fills p a × (l ≤ get_or p c 0) × (get_or p c 0 ≤ h)
cut_fills p [] c l h k f = (f, omega arith, omega arith)
cut_fills [] (x ∷ a) zero l h k f = absurd f
cut_fills [] (x ∷ a) (suc c) l h k f = absurd f
cut_fills (n ∷ p) (x ∷ a) zero l h k f = ((omega arith, omega arith, f.2), omega arith, omega arith)
cut_fills (n ∷ p) (x ∷ a) (suc c) l h k f = let r = cut_fills p a c l h (omega arith) f.2 in ((f.0, f.1, r.0), r.1, r.2)

pub sound_set : (a : List Row) (c : ℕ) (r : Row) → sound a ≡ true → r.low ≤ r.high → sound (set a c r) ≡ true
sound_set [] c r s k = refl
sound_set (x ∷ a) zero r s k = and_from (leb r.low r.high) (sound a) (le-leb r.low r.high k) (sound_parts x a s).1
sound_set (x ∷ a) (suc c) r s k =
    let t = and_parts (leb x.low x.high) (sound a) s in
    and_from (leb x.low x.high) (sound (set a c r)) t.0 (sound_set a c r t.1 k)

pub spread_cut : (a : List Row) (c l h : ℕ) → spread (cut a c l h) ≤ spread a
spread_cut [] c l h = omega arith
spread_cut (x ∷ a) zero l h = omega (arith, spread_cons x a, spread_cons (common x l h) a)
spread_cut (x ∷ a) (suc c) l h = omega (arith, spread_cons x a, spread_cons x (cut a c l h), spread_cut a c l h)

pub lows_take : (a : List Row) (i : ℕ) → i < length a → lows (take (suc i) a) ≡ lows (take i a) ++ (get_or a i none_row).low ∷ []
lows_take [] i k = absurd (omega arith)
lows_take (x ∷ a) zero k = refl
lows_take (x ∷ a) (suc i) k = ap (λ l. x.low ∷ l) (lows_take a i (omega arith))

pub inside_length : (a b : List Row) → Inside a b → length a ≡ length b
inside_length [] [] h = refl
inside_length [] (y ∷ b) h = absurd h
inside_length (x ∷ a) [] h = absurd h
inside_length (x ∷ a) (y ∷ b) h = ap suc (inside_length a b h.2)

pub cells_void : (a : List Row) → cells a ≡ void → ⊥
cells_void a e = let z = ap width e in omega (arith, spread_pos a)

abbrev rows_of : Board → List Row → List Row
rows_of void d = d
rows_of (cells a) d = a

pub cells_same : (a b : List Row) → cells a ≡ cells b → a ≡ b
cells_same a b e = ap (λ (x : Board). rows_of x a) e
