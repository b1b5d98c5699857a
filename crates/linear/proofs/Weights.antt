-- What counts weigh.
use Rattle.std.proofs.Common.{◌≡◌, ℕ, zero, suc, ◌+◌, ◌*◌, ◌<◌, ◌≤◌, true, List, [], ◌∷◌, length, get_or, take, set, refl, ap, ◌∙◌, ap₂, mul-le-mul_left, add-one, arith}
use Rattle.bounds.specs.declared.row.Row.{Row}
use Rattle.bounds.specs.Boards.{sound, Inside, Fills, Fixed, lows, highs, none_row}
use Rattle.bounds.proofs.Places.{fills_inside}
use Rattle.bounds.proofs.Rows.{sound_parts, fills_lows, fills_highs}
use Rattle.linear.specs.declared.limits.Limits.{Limits}
use Rattle.linear.specs.Linear.{weighed, limits, bounded, all_bounded}

abbrev pub Positive : List ℕ → Type 0
Positive [] = Unit {0}
Positive (w ∷ ws) = (0 < w) × Positive ws

pub weighed_fills : (ws p : List ℕ) (a : List Row) → Fills p a → (weighed ws (lows a) ≤ weighed ws p) × (weighed ws p ≤ weighed ws (highs a))
weighed_fills [] p a f = (omega arith, omega arith)
weighed_fills (w ∷ ws) [] [] f = (omega arith, omega arith)
weighed_fills (w ∷ ws) [] (r ∷ a) f = absurd f
weighed_fills (w ∷ ws) (n ∷ p) [] f = absurd f
weighed_fills (w ∷ ws) (n ∷ p) (r ∷ a) f =
    let rest = weighed_fills ws p a f.2 in
    let low = mul-le-mul_left w f.0 in
    let high = mul-le-mul_left w f.1 in (omega arith, omega arith)

pub weighed_inside : (ws : List ℕ) (a b : List Row) → sound a ≡ true → Inside a b
    → (weighed ws (lows b) ≤ weighed ws (lows a)) × (weighed ws (highs a) ≤ weighed ws (highs b))
weighed_inside ws a b s i =
    ((weighed_fills ws _ b (fills_inside _ a b i (fills_lows a s))).0, (weighed_fills ws _ b (fills_inside _ a b i (fills_highs a s))).1)

pub fixed_ends : (a : List Row) (p : List ℕ) → Fixed a p → (lows a ≡ p) × (highs a ≡ p)
fixed_ends [] [] f = (refl, refl)
fixed_ends [] (n ∷ p) f = absurd f
fixed_ends (r ∷ a) [] f = absurd f
fixed_ends (r ∷ a) (n ∷ p) f = let rest = fixed_ends a p f.2 in (ap₂ ◌∷◌ f.0 rest.0, ap₂ ◌∷◌ f.1 rest.1)

-- one more cell
pub weighed_more : (ws : List ℕ) (a : List Row) (i : ℕ) → i < length a → length ws ≡ length a
    → (weighed ws (lows (take (suc i) a)) ≡ weighed ws (lows (take i a)) + get_or ws i 0 * (get_or a i none_row).low)
    × (weighed ws (highs (take (suc i) a)) ≡ weighed ws (highs (take i a)) + get_or ws i 0 * (get_or a i none_row).high)
weighed_more ws [] i h e = absurd (omega arith)
weighed_more [] (r ∷ a) i h e = absurd (omega arith)
weighed_more (w ∷ []) (r ∷ a) zero h e = (omega arith, omega arith)
weighed_more (w ∷ (v ∷ ws)) (r ∷ a) zero h e = (omega arith, omega arith)
weighed_more (w ∷ ws) (r ∷ a) (suc i) h e = let rest = weighed_more ws a i (omega arith) (omega arith) in (omega arith, omega arith)

-- one of the cells
pub weighed_one : (ws : List ℕ) (a : List Row) (i : ℕ) → i < length a → length ws ≡ length a
    → (get_or ws i 0 * (get_or a i none_row).low ≤ weighed ws (lows a)) × (get_or ws i 0 * (get_or a i none_row).high ≤ weighed ws (highs a))
weighed_one ws [] i h e = absurd (omega arith)
weighed_one [] (r ∷ a) i h e = absurd (omega arith)
weighed_one (w ∷ ws) (r ∷ a) zero h e = (omega arith, omega arith)
weighed_one (w ∷ ws) (r ∷ a) (suc i) h e = let rest = weighed_one ws a i (omega arith) (omega arith) in (omega arith, omega arith)

pub positive_at : (ws : List ℕ) (i : ℕ) → Positive ws → i < length ws → 0 < get_or ws i 0
positive_at [] i p h = absurd (omega arith)
positive_at (w ∷ ws) zero p h = p.0
positive_at (w ∷ ws) (suc i) p h = positive_at ws i p.1 (omega arith)

pub bounded_length : (l : Limits) (ws : List ℕ) (a : List Row) → length ws ≡ length a → length (all_bounded l ws a) ≡ length a
bounded_length l [] a e = e
bounded_length l (w ∷ ws) [] e = refl
bounded_length l (w ∷ ws) (r ∷ a) e = ap suc (bounded_length l ws a (omega arith))

pub bounded_at : (l : Limits) (ws : List ℕ) (a : List Row) (i : ℕ) → i < length a → length ws ≡ length a
    → get_or (all_bounded l ws a) i none_row ≡ bounded l (get_or ws i 0) (get_or a i none_row)
bounded_at l ws [] i h e = absurd (omega arith)
bounded_at l [] (r ∷ a) i h e = absurd (omega arith)
bounded_at l (w ∷ ws) (r ∷ a) zero h e = refl
bounded_at l (w ∷ ws) (r ∷ a) (suc i) h e = bounded_at l ws a i (omega arith) (omega arith)

pub same_limits : (l m : Limits) → l.floor ≡ m.floor → l.ceiling ≡ m.ceiling → l.least ≡ m.least → l.most ≡ m.most → l ≡ m
same_limits l m a b c d = λ i. record { floor = a i; ceiling = b i; least = c i; most = d i }

module _ (ws : List ℕ) (floor ceiling : ℕ) where
  -- m is l with cell i weighed too
  pub limits_more : (a : List Row) (i : ℕ) (l m : Limits) → i < length a → length ws ≡ length a → l ≡ limits ws floor ceiling (take i a)
      → m.floor ≡ l.floor → m.ceiling ≡ l.ceiling
      → m.least ≡ l.least + get_or ws i 0 * (get_or a i none_row).low
      → m.most ≡ l.most + get_or ws i 0 * (get_or a i none_row).high
      → m ≡ limits ws floor ceiling (take (i + 1) a)
  limits_more a i l m h e v f g b c =
      let more = weighed_more ws a i h e in
      rw add-one (same_limits m (limits ws floor ceiling (take (suc i) a)) (f ∙ ap (λ x. x.floor) v) (g ∙ ap (λ x. x.ceiling) v)
      (omega (arith, ap (λ x. x.least) v)) (omega (arith, ap (λ x. x.most) v)))

pub fills_set : (p : List ℕ) (a : List Row) (c n : ℕ) → Fills p a → (get_or a c none_row).low ≤ n → n ≤ (get_or a c none_row).high → Fills (set p c n) a
fills_set [] a c n f l h = f
fills_set (m ∷ p) [] c n f l h = absurd f
fills_set (m ∷ p) (r ∷ a) zero n f l h = (l, h, f.2)
fills_set (m ∷ p) (r ∷ a) (suc c) n f l h = (f.0, f.1, fills_set p a c n f.2 l h)

pub weighed_set : (ws p : List ℕ) (c n : ℕ) → c < length p → length ws ≡ length p → weighed ws (set p c n) + get_or ws c 0 * get_or p c 0 ≡ weighed ws p + get_or ws c 0 * n
weighed_set ws [] c n h e = absurd (omega arith)
weighed_set [] (m ∷ p) c n h e = absurd (omega arith)
weighed_set (w ∷ ws) (m ∷ p) zero n h e = omega arith
weighed_set (w ∷ ws) (m ∷ p) (suc c) n h e = omega (arith, weighed_set ws p c n (omega arith) (omega arith))

-- the other cells weigh at least as much at their highs
pub weighed_others : (ws : List ℕ) (a : List Row) (c : ℕ) → sound a ≡ true → c < length a → length ws ≡ length a
    → weighed ws (lows a) + get_or ws c 0 * (get_or a c none_row).high ≤ weighed ws (highs a) + get_or ws c 0 * (get_or a c none_row).low
weighed_others ws [] c s h e = absurd (omega arith)
weighed_others [] (r ∷ a) c s h e = absurd (omega arith)
weighed_others (w ∷ ws) (r ∷ a) zero s h e = omega (arith, (weighed_fills ws (highs a) a (fills_highs a (sound_parts r a s).1)).0)
weighed_others (w ∷ ws) (r ∷ a) (suc c) s h e =
    let k = sound_parts r a s in omega (arith, mul-le-mul_left w k.0, weighed_others ws a c k.1 (omega arith) (omega arith))
