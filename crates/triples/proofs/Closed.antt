-- The narrowed rows of each kind in closed form, and that they are exact.
use Rattle.std.proofs.Common.{◌≡◌, ℕ, zero, suc, ◌+◌, ◌-◌, ◌<◌, ◌≤◌, min, max, Bool, true, cond, ltb, ◌⊎◌, List, [], ◌∷◌, length, refl, ap, ◌∙◌, inl, inr, arith}
use Rattle.std.proofs.lemmas.Bool.{leb-true, le-leb, cases_lt, cond-true, cond-false, lt-ltb, le-ltb}
use Rattle.bounds.specs.declared.row.Row.{Row}
use Rattle.bounds.specs.Boards.{void, cells, sound, Fills}
use Rattle.bounds.specs.Exact.{exact}
use Rattle.bounds.proofs.Places.{sound_at}
use Rattle.bounds.proofs.Hulls.{Meeting}
use Rattle.triples.specs.Triples.{makes, relation}
use Rattle.records.specs.declared.triples.TripleKind.TheVariants.{Union, Intersection, UnionPlus, Subset}
use Rattle.bounds.specs.Cells.{common}
use Rattle.rules.proofs.Rows.{two, three, as_two, as_three, row_at, Cut}
use Rattle.rules.proofs.Reached.{In, Reached, exact_reached}
use Rattle.triples.proofs.Frames.{Sound, Narrowed, exact_three}

-- r is u where x is below y, and else v
abbrev pub IfBelow : ℕ → ℕ → ℕ → ℕ → ℕ → Type 0
IfBelow x y r u v = ((x < y) × (r ≡ u)) ⊎ ((y ≤ x) × (r ≡ v))

if_below : (x y u v : ℕ) → IfBelow x y (cond (ltb x y) u v) u v
if_below x y u v = elim (cases_lt x y) [
  | inl l ↦ inl (l, cond-true _ u v (lt-ltb x y l))
  | inr l ↦ inr (l, cond-false _ u v (le-ltb x y l))
]

cut_sound : (g a : Row) (l h : ℕ) → Cut g a l h → g.low ≤ g.high → a.low ≤ a.high
cut_sound g a l h u s = omega arith

-- g, h and k narrow the rows a, b and c of a union: where one part can't reach the whole's least, the other must
pub record UnionRows (a b c g h k : Row) (x y : ℕ) : Type 0 where
  pub first : Cut g a x k.high
  pub second : Cut h b y k.high
  pub whole : Cut k c (max a.low b.low) (max a.high b.high)
  pub first_low : IfBelow b.high k.low x k.low a.low
  pub second_low : IfBelow a.high k.low y k.low b.low

-- of an intersection, with the order reversed
pub record IntersectionRows (a b c g h k : Row) (x y : ℕ) : Type 0 where
  pub first : Cut g a k.low x
  pub second : Cut h b k.low y
  pub whole : Cut k c (min a.low b.low) (min a.high b.high)
  pub first_high : IfBelow k.high b.low x k.high a.high
  pub second_high : IfBelow k.high a.low y k.high b.high

-- of a union-plus, with sums that stop at a number that no count of c exceeds
pub record PlusRows (a b c g h k : Row) (top : ℕ) : Type 0 where
  pub first : Cut g a (c.low - b.high) (c.high - b.low)
  pub second : Cut h b (c.low - a.high) (c.high - a.low)
  pub whole : Cut k c (min (a.low + b.low) top) (min (a.high + b.high) top)
  pub room : c.high ≤ top

-- what a row adds to a count, for a sum in another
addend : (b c : Row) (m : ℕ) → b.low ≤ b.high → c.low ≤ c.high → c.low ≤ m + b.high → m + b.low ≤ c.high
    → (n : ℕ) × In n b × In (m + n) c
addend b c m s t l h = (max b.low (c.low - m), omega arith, omega arith)

-- two rows take every sum from that of their lows to that of their highs
parts : (a b : Row) (z : ℕ) → a.low ≤ a.high → b.low ≤ b.high → a.low + b.low ≤ z → z ≤ a.high + b.high
    → (x : ℕ) × (y : ℕ) × In x a × In y b × (x + y ≡ z)
parts a b z s t l h = let x = max a.low (z - b.high) in (x, z - x, omega arith, omega arith, omega arith)

module _ (a b c g h k : Row) where
  pub union_narrowed : (x y : ℕ) → UnionRows a b c g h k x y → Narrowed max a b c g h k
  union_narrowed x y u = record {
    holds = λ m n l. omega arith;
    first = λ s m i. elim u.first_low [ inl e ↦ (b.low, omega arith) | inr e ↦ (k.low, omega arith) ];
    second = λ s n i. elim u.second_low [ inl e ↦ (a.low, omega arith) | inr e ↦ (k.low, omega arith) ];
    third = λ s z i. elim (cases_lt a.high z)
        [ inl e ↦ (a.low, z, omega arith, omega arith) | inr e ↦ (z, b.low, omega arith, omega arith) ];
  }

  pub intersection_narrowed : (x y : ℕ) → IntersectionRows a b c g h k x y → Narrowed min a b c g h k
  intersection_narrowed x y u = record {
    holds = λ m n l. omega arith;
    first = λ s m i. elim u.first_high [ inl e ↦ (b.high, omega arith) | inr e ↦ (k.high, omega arith) ];
    second = λ s n i. elim u.second_high [ inl e ↦ (a.high, omega arith) | inr e ↦ (k.high, omega arith) ];
    third = λ s z i. elim (cases_lt z a.low)
        [ inl e ↦ (a.high, z, omega arith, omega arith) | inr e ↦ (z, b.high, omega arith, omega arith) ];
  }

  pub plus_narrowed : (top : ℕ) → PlusRows a b c g h k top → Narrowed ◌+◌ a b c g h k
  plus_narrowed top u =
      let wide : Sound ◌+◌ a b c g h k → Sound ◌+◌ a b c a b c = λ s.
      (cut_sound g a _ _ u.first s.0, cut_sound h b _ _ u.second s.1, cut_sound k c _ _ u.whole s.2) in
      record {
        holds = λ m n l. omega arith;
        first = λ s m i. let t = wide s in
            let (n, v, w) = addend b c m t.1 t.2 (omega arith) (omega arith) in (n, ((omega arith, omega arith), v, w));
        second = λ s n i. let t = wide s in
            let (m, v, w) = addend a c n t.0 t.2 (omega arith) (omega arith) in (m, (v, (omega arith, omega arith), (omega arith, omega arith)));
        third = λ s z i. let t = wide s in let l : a.low + b.low ≤ c.high = omega (arith, s.0, s.1) in
            let (m, n, v, w, e) = parts a b z t.0 t.1 (omega arith) (omega arith) in (m, n, (v, w, (omega arith, omega arith)), e);
      }

-- the same of the rows of an array
module _ (rows : List Row) (whole : length rows ≡ 3) where
  abbrev pub first : Row
  first = row_at rows 0

  abbrev pub second : Row
  second = row_at rows 1

  abbrev pub third : Row
  third = row_at rows 2

  abbrev pub ExactRows : (List ℕ → Bool) → Row → Row → Row → Type 0
  ExactRows meets g h k = exact meets rows ≡ cond (sound (three g h k)) (cells (three g h k)) void

  exact_rows : (op : ℕ → ℕ → ℕ) (g h k : Row) → Narrowed op first second third g h k → ExactRows (makes op) g h k
  exact_rows op g h k n = ap (exact (makes op)) (as_three rows whole) ∙ exact_three op first second third g h k n

  pub union_array :
      let k = common third (max first.low second.low) (max first.high second.high) in
      let x = cond (ltb second.high k.low) k.low first.low in let y = cond (ltb first.high k.low) k.low second.low in
      ExactRows (relation Union) (common first x k.high) (common second y k.high) k
  union_array =
      let k : Row = common third (max first.low second.low) (max first.high second.high) in
      let x = cond (ltb second.high k.low) k.low first.low in let y = cond (ltb first.high k.low) k.low second.low in
      let g : Row = common first x k.high in
      let h : Row = common second y k.high in
      exact_rows max g h k (union_narrowed first second third g h k x y
      (record { first = (refl, refl); second = (refl, refl); whole = (refl, refl); first_low = if_below _ _ _ _; second_low = if_below _ _ _ _ }))

  pub intersection_array :
      let k = common third (min first.low second.low) (min first.high second.high) in
      let x = cond (ltb k.high second.low) k.high first.high in let y = cond (ltb k.high first.low) k.high second.high in
      ExactRows (relation Intersection) (common first k.low x) (common second k.low y) k
  intersection_array =
      let k : Row = common third (min first.low second.low) (min first.high second.high) in
      let x = cond (ltb k.high second.low) k.high first.high in let y = cond (ltb k.high first.low) k.high second.high in
      let g : Row = common first k.low x in
      let h : Row = common second k.low y in
      exact_rows min g h k (intersection_narrowed first second third g h k x y
      (record { first = (refl, refl); second = (refl, refl); whole = (refl, refl); first_high = if_below _ _ _ _; second_high = if_below _ _ _ _ }))

  pub plus_array : third.high ≤ 65535
      → ExactRows (relation UnionPlus) (common first (third.low - second.high) (third.high - second.low)) (common second (third.low - first.high) (third.high - first.low))
      (common third (min (first.low + second.low) 65535) (min (first.high + second.high) 65535))
  plus_array p =
      let g : Row = common first (third.low - second.high) (third.high - second.low) in
      let h : Row = common second (third.low - first.high) (third.high - first.low) in
      let k : Row = common third (min (first.low + second.low) 65535) (min (first.high + second.high) 65535) in
      exact_rows ◌+◌ g h k (plus_narrowed first second third g h k 65535 (record { first = (refl, refl); second = (refl, refl); whole = (refl, refl); room = p }))

-- a subset: the first has at most the second's most, the second at least the first's least
module _ (a b g h : Row) (first : Cut g a 0 b.high) (second : Cut h b a.low b.high) where
  held : (p : List ℕ) → Meeting (relation Subset) (two a b) p → Fills p (two g h)
  held [] m = absurd m.0
  held (x ∷ []) m = absurd m.0.2
  held (x ∷ (y ∷ [])) m = let e = leb-true x y m.1 in (omega arith, omega arith, (omega arith, omega arith, tt))
  held (x ∷ (y ∷ (z ∷ p))) m = absurd m.0.2.2

  meeting : (x y : ℕ) → In x a → In y b → x ≤ y → Meeting (relation Subset) (two a b) (two x y)
  meeting x y i j l = ((omega arith, omega arith, (omega arith, omega arith, tt)), le-leb x y l)

  reached : sound (two g h) ≡ true → Reached (relation Subset) (two a b) (two g h)
  reached s zero l x i = let t = sound_at (two g h) s 1 (omega arith) in (two x b.high, meeting x b.high (omega arith) (omega arith) (omega arith), refl)
  reached s (suc zero) l y i = let t = sound_at (two g h) s 0 (omega arith) in (two a.low y, meeting a.low y (omega arith) (omega arith) (omega arith), refl)
  reached s (suc (suc i)) l n j = absurd (omega arith)

  pub subset_exact : exact (relation Subset) (two a b) ≡ cond (sound (two g h)) (cells (two g h)) void
  subset_exact = exact_reached (relation Subset) (two a b) (two g h) (omega arith) held reached

pub subset_array : (rows : List Row) → length rows ≡ 2
    → let a = row_at rows 0 in let b = row_at rows 1 in let g = common a 0 b.high in let h = common b a.low b.high in
    exact (relation Subset) rows ≡ cond (sound (two g h)) (cells (two g h)) void
subset_array rows e = ap (exact (relation Subset)) (as_two rows e) ∙ subset_exact (row_at rows 0) (row_at rows 1) _ _ (refl, refl) (refl, refl)
