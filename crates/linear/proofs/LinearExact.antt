-- Where the floor or the ceiling alone can bind, a linear constraint is narrowed exactly.
use Rattle.std.proofs.Common.{◌≡◌, ℕ, ◌+◌, ◌-◌, ◌*◌, ◌/◌, ◌<◌, ◌≤◌, min, max, true, List, length, get_or, set, ap, ◌∙◌, inl, inr, mul-le-mul_left, arith}
use Rattle.std.proofs.lemmas.Bool.{both_ways, le-leb, leb-true, and_parts, and_from}
use Rattle.std.proofs.lemmas.List.{get_or-set_same}
use Rattle.bounds.specs.declared.row.Row.{Row}
use Rattle.bounds.specs.Boards.{sound, Fills, lows, highs, none_row}
use Rattle.bounds.specs.Exact.{exact}
use Rattle.bounds.proofs.Places.{low_at, high_at, fills_length, fills_sound, sound_at}
use Rattle.bounds.proofs.Rows.{fills_lows, fills_highs, lows_at, highs_at}
use Rattle.bounds.proofs.Hulls.{Tight, Hull, Meeting, exact_is, hull_one}
use Rattle.linear.specs.Linear.{weighed, over, limits, sum_within, bounded_sum}
use Rattle.linear.proofs.Quotients.{div_weighs, div_greatest, over_weighs, over_least}
use Rattle.linear.proofs.Weights.{Positive, positive_at, fills_set, weighed_fills, weighed_one, weighed_set, weighed_others, bounded_length, bounded_at}
use Rattle.linear.proofs.LinearLaws.{new_rows, new_keeps, by_ways, hopeless_cases}

module _ (ws : List ℕ) (floor ceiling : ℕ) (a : List Row) (pos : Positive ws) (e : length ws ≡ length a) (s : sound a ≡ true) where
  abbrev meets : List ℕ → Type 0
  meets = Meeting (sum_within ws floor ceiling) a

  abbrev new : List Row
  new = new_rows ws floor ceiling a

  meeting : (p : List ℕ) → Fills p a → floor ≤ weighed ws p → weighed ws p ≤ ceiling → meets p
  meeting p f l h = (f, and_from _ _ (le-leb floor (weighed ws p) l) (le-leb (weighed ws p) ceiling h))

  -- it is enough that the new rows are tight
  exact_if : (weighed ws (lows a) ≤ ceiling → floor ≤ weighed ws (highs a) → Tight meets new) → bounded_sum ws floor ceiling a ≡ exact (sum_within ws floor ceiling) a
  exact_if tight = hull_one meets _ _
      (by_ways ws floor ceiling a (Hull meets)
      (λ h p m. let k = and_parts _ _ m.1 in let w = weighed_fills ws p a m.0 in
      let l = leb-true floor (weighed ws p) k.0 in let u = leb-true (weighed ws p) ceiling k.1 in
      elim (hopeless_cases ws floor ceiling a h) [ inl o ↦ omega arith | inr o ↦ omega arith ])
      (λ l h _. tight l h)
      (λ h p m. both_ways (sound new) h (fills_sound p new (new_keeps ws floor ceiling pos a p e m.0 m.1))))
      (exact_is (sum_within ws floor ceiling) a)

  module _ (c : ℕ) (h : c < length a) where
    abbrev row : Row
    row = get_or a c none_row

    abbrev weight : ℕ
    weight = get_or ws c 0

    new_low : low_at new c ≡ max row.low (over (floor - (weighed ws (highs a) - weight * row.high)) weight)
    new_low = ap (λ (r : Row). r.low) (bounded_at (limits ws floor ceiling a) ws a c h e)

    new_high : high_at new c ≡ min row.high ((ceiling - (weighed ws (lows a) - weight * row.low)) / weight)
    new_high = ap (λ (r : Row). r.high) (bounded_at (limits ws floor ceiling a) ws a c h e)

    -- a filling with another count in the cell
    moved : (p : List ℕ) (n : ℕ) → Fills p a → row.low ≤ n → n ≤ row.high
        → floor + weight * get_or p c 0 ≤ weighed ws p + weight * n → weighed ws p + weight * n ≤ ceiling + weight * get_or p c 0
        → (q : List ℕ) × meets q × (get_or q c 0 ≡ n)
    moved p n f l u bottom top =
        let k = fills_length p a f in
        let sum = weighed_set ws p c n (omega arith) (omega arith) in
        (set p c n, meeting (set p c n) (fills_set p a c n f l u) (omega arith) (omega arith), get_or-set_same p c n 0 (omega arith))

    weight_pos : 0 < weight
    weight_pos = positive_at ws c pos (omega arith)

    -- the floor is met by every filling
    module _ (met : floor ≤ weighed ws (lows a)) (fit : weighed ws (lows a) ≤ ceiling) where
      low_stays : row.low ≡ low_at new c
      low_stays =
          let one = weighed_one ws a c h e in
          let none = over_least (floor - (weighed ws (highs a) - weight * row.high)) weight row.low weight_pos (omega (arith, weighed_others ws a c s h e)) in
          omega (arith, new_low)

      high_meets : (q : List ℕ) × meets q × (get_or q c 0 ≡ high_at new c)
      high_meets =
          let one = weighed_one ws a c h e in
          let kept = div_greatest (ceiling - (weighed ws (lows a) - weight * row.low)) weight row.low weight_pos (omega arith) in
          let heavy = div_weighs (ceiling - (weighed ws (lows a) - weight * row.low)) weight in
          let is = new_high in
          let over_low : row.low ≤ high_at new c = omega (arith, sound_at a s c h) in
          let more = mul-le-mul_left weight over_low in
          let capped : high_at new c ≤ (ceiling - (weighed ws (lows a) - weight * row.low)) / weight = omega arith in
          let less = mul-le-mul_left weight capped in
          let here = ap (λ n. weight * n) (lows_at a c) in
          moved (lows a) (high_at new c) (fills_lows a s) over_low (omega arith) (omega arith) (omega arith)

    -- the ceiling is met by every filling
    module _ (met : weighed ws (highs a) ≤ ceiling) (fit : floor ≤ weighed ws (highs a)) where
      high_stays : row.high ≡ high_at new c
      high_stays =
          let one = weighed_one ws a c h e in
          let all = div_greatest (ceiling - (weighed ws (lows a) - weight * row.low)) weight row.high weight_pos (omega (arith, weighed_others ws a c s h e)) in
          omega (arith, new_high)

      low_meets : (q : List ℕ) × meets q × (get_or q c 0 ≡ low_at new c)
      low_meets =
          let one = weighed_one ws a c h e in
          let kept = over_least (floor - (weighed ws (highs a) - weight * row.high)) weight row.high weight_pos (omega arith) in
          let heavy = over_weighs (floor - (weighed ws (highs a) - weight * row.high)) weight weight_pos in
          let is = new_low in
          let under : low_at new c ≤ row.high = omega (arith, sound_at a s c h) in
          let less = mul-le-mul_left weight under in
          let raised : over (floor - (weighed ws (highs a) - weight * row.high)) weight ≤ low_at new c = omega arith in
          let more = mul-le-mul_left weight raised in
          let here = ap (λ n. weight * n) (highs_at a c) in
          moved (highs a) (low_at new c) (fills_highs a s) (omega arith) under (omega arith) (omega arith)

  inside : (c : ℕ) → c < length new → c < length a
  inside c k = omega (arith, bounded_length (limits ws floor ceiling a) ws a e)

  pub ceiling_exact : floor ≤ weighed ws (lows a) → bounded_sum ws floor ceiling a ≡ exact (sum_within ws floor ceiling) a
  ceiling_exact met = exact_if (λ l h. record {
    one = (lows a, meeting (lows a) (fills_lows a s) met l);
    holds = λ p m. new_keeps ws floor ceiling pos a p e m.0 m.1;
    lowest = λ c k. (lows a, meeting (lows a) (fills_lows a s) met l, lows_at a c ∙ low_stays c (inside c k) met l);
    highest = λ c k. high_meets c (inside c k) met l;
  })

  pub floor_exact : weighed ws (highs a) ≤ ceiling → bounded_sum ws floor ceiling a ≡ exact (sum_within ws floor ceiling) a
  floor_exact met = exact_if (λ l h. record {
    one = (highs a, meeting (highs a) (fills_highs a s) h met);
    holds = λ p m. new_keeps ws floor ceiling pos a p e m.0 m.1;
    lowest = λ c k. low_meets c (inside c k) met h;
    highest = λ c k. (highs a, meeting (highs a) (fills_highs a s) h met, highs_at a c ∙ high_stays c (inside c k) met h);
  })
