-- The laws of a linear constraint's narrowing.
use Rattle.std.proofs.Common.{◌≡◌, ℕ, ◌+◌, ◌-◌, ◌*◌, ◌<◌, ◌≤◌, Bool, true, false, ◌||◌, ltb, leb, ◌⊎◌, List, [], ◌∷◌, length, sym, refl, ap, ◌∙◌, inl, inr, mul-le-mul_left, arith}
use Rattle.std.proofs.lemmas.Bool.{cond_both, cond-true, both_ways, ltb-true, ltb-false, lt-ltb, leb-true, leb-false, and_parts, and_cases, or_cases, or_parts, or_left, or_right}
use Rattle.bounds.specs.declared.row.Row.{Row}
use Rattle.bounds.specs.Boards.{Board, void, cells, sound, Real, Within, Inside, Fills, Lies, Fixed, lows, highs}
use Rattle.bounds.specs.Scoped.{ScopedLaws}
use Rattle.bounds.proofs.Places.{fills_inside, fills_sound}
use Rattle.bounds.proofs.Rows.{sound_parts, fills_lows}
use Rattle.linear.specs.declared.limits.Limits.{Limits}
use Rattle.linear.specs.Linear.{weighed, limits, all_bounded, board_of, bounded_sum, sum_within, linear}
use Rattle.linear.proofs.Quotients.{div_greatest, div_mono, over_least, over_mono}
use Rattle.linear.proofs.Weights.{Positive, weighed_fills, weighed_inside, fixed_ends}

module _ (l : Limits) where
  pub bounded_inside : (ws : List ℕ) (a : List Row) → length ws ≡ length a → Inside (all_bounded l ws a) a
  bounded_inside [] [] e = tt
  bounded_inside [] (r ∷ a) e = omega arith
  bounded_inside (w ∷ ws) [] e = omega arith
  bounded_inside (w ∷ ws) (r ∷ a) e = (omega arith, omega arith, bounded_inside ws a (omega arith))

  -- the cells before these weigh `under` at their lows and `above` at their highs
  pub bounded_keeps : (ws p : List ℕ) (a : List Row) → Positive ws → length ws ≡ length a → Fills p a → (under above : ℕ)
      → l.least ≡ under + weighed ws (lows a) → l.most ≡ above + weighed ws (highs a)
      → under + weighed ws p ≤ l.ceiling → l.floor ≤ above + weighed ws p
      → Fills p (all_bounded l ws a)
  bounded_keeps [] [] [] pos e f under above u v c d = tt
  bounded_keeps [] p (r ∷ a) pos e f under above u v c d = absurd (omega arith)
  bounded_keeps [] (n ∷ p) [] pos e f under above u v c d = absurd f
  bounded_keeps (w ∷ ws) p [] pos e f under above u v c d = absurd (omega arith)
  bounded_keeps (w ∷ ws) [] (r ∷ a) pos e f under above u v c d = absurd f
  bounded_keeps (w ∷ ws) (n ∷ p) (r ∷ a) pos e f under above u v c d =
      let rest = weighed_fills ws p a f.2 in
      let low = mul-le-mul_left w f.0 in
      let high = mul-le-mul_left w f.1 in
      let top = div_greatest (l.ceiling - (l.least - w * r.low)) w n pos.0 (omega arith) in
      let bottom = over_least (l.floor - (l.most - w * r.high)) w n pos.0 (omega arith) in
      (omega arith, omega arith, bounded_keeps ws p a pos.1 (omega arith) f.2 (under + w * r.low) (above + w * r.high) (omega arith) (omega arith) (omega arith) (omega arith))

  pub bounded_mono : (l' : Limits) → l.floor ≡ l'.floor → l.ceiling ≡ l'.ceiling → (ws : List ℕ) (a b : List Row) → Positive ws → length ws ≡ length a → sound a ≡ true → Inside a b
      → (under above under' above' : ℕ)
      → l.least ≡ under + weighed ws (lows a) → l.most ≡ above + weighed ws (highs a)
      → l'.least ≡ under' + weighed ws (lows b) → l'.most ≡ above' + weighed ws (highs b)
      → under' ≤ under → above ≤ above'
      → Inside (all_bounded l ws a) (all_bounded l' ws b)
  bounded_mono l' f g [] a b pos e s i under above under' above' u v u' v' c d = tt
  bounded_mono l' f g (w ∷ ws) [] b pos e s i under above under' above' u v u' v' c d = absurd (omega arith)
  bounded_mono l' f g (w ∷ ws) (r ∷ a) [] pos e s i under above under' above' u v u' v' c d = absurd i
  bounded_mono l' f g (w ∷ ws) (r ∷ a) (t ∷ b) pos e s i under above under' above' u v u' v' c d =
      let rest = weighed_inside ws a b (sound_parts r a s).1 i.2 in
      let low = mul-le-mul_left w i.0 in
      let high = mul-le-mul_left w i.1 in
      let top = div_mono (l.ceiling - (l.least - w * r.low)) (l'.ceiling - (l'.least - w * t.low)) w pos.0 (omega arith) in
      let bottom = over_mono (l'.floor - (l'.most - w * t.high)) (l.floor - (l.most - w * r.high)) w pos.0 (omega arith) in (
        omega arith,
        omega arith,
        bounded_mono l' f g ws a b pos.1 (omega arith) (sound_parts r a s).1 i.2
            (under + w * r.low) (above + w * r.high) (under' + w * t.low) (above' + w * t.high) (omega arith) (omega arith) (omega arith) (omega arith) (omega arith) (omega arith),
      )

sound_inside : (a b : List Row) → sound a ≡ true → Inside a b → sound b ≡ true
sound_inside a b s i = fills_sound (lows a) b (fills_inside (lows a) a b i (fills_lows a s))

module _ (ws : List ℕ) (floor ceiling : ℕ) where
  -- the lows weigh too much, or the highs too little
  abbrev pub hopeless : List Row → Bool
  hopeless a = ltb ceiling (weighed ws (lows a)) || ltb (weighed ws (highs a)) floor

  abbrev pub new_rows : List Row → List Row
  new_rows a = all_bounded (limits ws floor ceiling a) ws a

  -- the three ways to narrow
  pub by_ways : (a : List Row) (P : Board → Type 0)
      → (hopeless a ≡ true → P void)
      → (weighed ws (lows a) ≤ ceiling → floor ≤ weighed ws (highs a) → sound (new_rows a) ≡ true → P (cells (new_rows a)))
      → (sound (new_rows a) ≡ false → P void)
      → P (bounded_sum ws floor ceiling a)
  by_ways a P none some empty = cond_both (hopeless a) void (board_of (new_rows a)) P none
      (λ h. let k = or_parts _ _ h in cond_both (sound (new_rows a)) (cells (new_rows a)) void P (some (ltb-false _ _ k.0) (ltb-false _ _ k.1)) empty)

  pub hopeless_cases : (a : List Row) → hopeless a ≡ true → (ceiling < weighed ws (lows a)) ⊎ (weighed ws (highs a) < floor)
  hopeless_cases a h = elim (or_cases _ _ h) [ inl l ↦ inl (ltb-true _ _ l) | inr l ↦ inr (ltb-true _ _ l) ]

  module _ (pos : Positive ws) where
    pub new_keeps : (a : List Row) (p : List ℕ) → length ws ≡ length a → Fills p a → sum_within ws floor ceiling p ≡ true → Fills p (new_rows a)
    new_keeps a p e f m =
        let k = and_parts _ _ m in let d = leb-true floor (weighed ws p) k.0 in let c = leb-true (weighed ws p) ceiling k.1 in
        bounded_keeps (limits ws floor ceiling a) ws p a pos e f 0 0 (omega arith) (omega arith) (omega arith) (omega arith)

    keeps : (a : List Row) (p : List ℕ) → length ws ≡ length a → Fills p a → sum_within ws floor ceiling p ≡ true → Lies p (bounded_sum ws floor ceiling a)
    keeps a p e f m =
        let k = and_parts _ _ m in let d = leb-true floor (weighed ws p) k.0 in let c = leb-true (weighed ws p) ceiling k.1 in
        let w = weighed_fills ws p a f in let g = new_keeps a p e f m in
        by_ways a (Lies p) (λ h. elim (hopeless_cases a h) [ inl l ↦ omega arith | inr l ↦ omega arith ]) (λ _ _ _. g)
        (λ h. both_ways (sound (new_rows a)) h (fills_sound p (new_rows a) g))

    monotone : (a b : List Row) → length ws ≡ length a → sound a ≡ true → Inside a b → Within (bounded_sum ws floor ceiling a) (bounded_sum ws floor ceiling b)
    monotone a b e s i =
        let w = weighed_inside ws a b s i in
        let j : Inside (new_rows a) (new_rows b) = bounded_mono (limits ws floor ceiling a) (limits ws floor ceiling b) refl refl ws a b pos e s i 0 0 0 0 (omega arith) (omega arith) (omega arith) (omega arith) (omega arith) (omega arith) in
        by_ways a (λ x. Within x (bounded_sum ws floor ceiling b)) (λ _. tt)
        (λ c d t. by_ways b (λ y. Within (cells (new_rows a)) y) (λ h. elim (hopeless_cases b h) [ inl l ↦ omega arith | inr l ↦ omega arith ]) (λ _ _ _. j)
        (λ h. both_ways (sound (new_rows b)) h (sound_inside (new_rows a) (new_rows b) t j)))
        (λ _. tt)

    rejects : (a : List Row) (p : List ℕ) → Fixed a p → sum_within ws floor ceiling p ≡ false → bounded_sum ws floor ceiling a ≡ void
    rejects a p f m =
        let ends = fixed_ends a p f in let l = ap (weighed ws) ends.0 in let h = ap (weighed ws) ends.1 in
        cond-true (hopeless a) void _ (elim (and_cases (leb floor (weighed ws p)) (leb (weighed ws p) ceiling) m) [
          | inl k ↦ or_right _ _ (lt-ltb (weighed ws (highs a)) floor (omega (arith, leb-false floor (weighed ws p) k)))
          | inr k ↦ or_left _ _ (lt-ltb ceiling (weighed ws (lows a)) (omega (arith, leb-false (weighed ws p) ceiling k)))
        ])

    pub linear_laws : (scope : List ℕ) → length ws ≡ length scope → ScopedLaws (linear scope ws floor ceiling)
    linear_laws scope e = record {
      real = λ a k s. by_ways a Real (λ _. tt) (λ _ _ t. t) (λ _. tt);
      within = λ a k s. by_ways a (λ x. Within x (cells a)) (λ _. tt) (λ _ _ _. bounded_inside (limits ws floor ceiling a) ws a (e ∙ sym k)) (λ _. tt);
      monotone = λ a b k l s t i. monotone a b (e ∙ sym k) s i;
      keeps = λ a p k s f m. keeps a p (e ∙ sym k) f m;
      rejects = λ a p k f m. rejects a p f m;
    }
