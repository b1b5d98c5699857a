-- The search for the fewest, and what the frame holds.
use Rattle.std.proofs.Common.{◌≡◌, ℕ, zero, suc, ◌+◌, ◌-◌, ◌<◌, ◌≤◌, min, true, false, ◌&&◌, leb, List, length, Some, Option, refl, sym, ap, ◌∙◌, inl, inr, arith}
use Rattle.std.proofs.lemmas.Bool.{lt-ltb, le-ltb, le-leb, lt-leb, leb-true, cond-true, cond-false, cond_both, and_from, and_left, and_right, and_parts, cases_lt}
use Rattle.bounds.specs.declared.row.Row.{Row}
use Rattle.plates.specs.declared.frame.Sums.{Sums}
use Rattle.plates.specs.Form.{Frame, certain, low_sum, base, reach, seek, most, fewest, feasible, frame_of}
use Rattle.plates.specs.Work.{Summed, Topped, Small, Spanned, sum_at, room_for}
use Rattle.plates.proofs.Tops.{top_mono, top_full}

module _ (f : ℕ → ℕ) (need : ℕ) where
  -- the first that is enough
  seek_first : (k n r : ℕ) → k ≤ r → r ≤ k + n → need ≤ f r → ((j : ℕ) → k ≤ j → j < r → f j < need) → seek f need k n ≡ r
  seek_first k zero r a b h l = omega arith
  seek_first k (suc n) r a b h l = elim (cases_lt k r) [
    | inl p ↦ cond-true _ _ _ (lt-ltb (f k) need (l k (omega arith) p)) ∙ seek_first (suc k) n r p (omega arith) h (λ j q. l j (omega arith))
    | inr p ↦ let e : r ≡ k = omega arith in cond-false _ _ _ (le-ltb (f k) need (rw e at h)) ∙ sym e
  ]

  -- none is
  seek_last : (k n : ℕ) → ((j : ℕ) → k ≤ j → j ≤ k + n → f j < need) → seek f need k n ≡ k + n
  seek_last k zero l = omega arith
  seek_last k (suc n) l = cond-true _ _ _ (lt-ltb (f k) need (l k (omega arith) (omega arith)))
      ∙ (seek_last (suc k) n (λ j p q. l j (omega arith) (omega arith)) ∙ omega arith)

  pub seek_past : (k m : ℕ) → m ≤ k → seek f need k (m - k) ≡ k
  seek_past k m h = let e : m - k ≡ 0 = omega arith in ap (seek f need k) e

abbrev pub frame_made : Sums → (floor ceiling fewest most under at over : ℕ) → Frame
frame_made sm floor ceiling r m under at over = record {
  floor = floor;
  ceiling = ceiling;
  certain = sm.certain;
  optional = sm.optional;
  lows = sm.lows;
  fewest = r;
  most = m;
  under = under;
  at = at;
  over = over;
}

-- what there being room for k optional counts says
pub record Room (m : Sums) (s v : Row) (k : ℕ) : Type 0 where
  pub kinds : m.certain ≤ v.high
  pub copies : m.lows ≤ s.high
  pub is : k ≡ min m.optional (min (v.high - m.certain) (s.high - m.lows))

pub room_is : (m : Sums) (s v : Row) (k : ℕ) → room_for m s v ≡ Some k → Room m s v k
room_is m s v k = cond_both (leb m.certain v.high && leb m.lows s.high) _ _ (λ (o : Option ℕ). o ≡ Some k → Room m s v k)
    (λ t e. let p = and_parts _ _ t in record { kinds = leb-true _ _ p.0; copies = leb-true _ _ p.1; is = cc })
    (λ _ e. let z : ◌≡◌ {A = ℕ} 0 1 = cc in absurd (omega arith))

module _ (s v : Row) (cs : List Row) where
  pub none_short : most s v cs < fewest s v cs → feasible s v cs ≡ false
  none_short h = and_right (leb (certain cs) v.high && leb (low_sum cs) s.high) _ (and_left _ _ (lt-leb (fewest s v cs) (most s v cs) h))

  pub none_light : reach cs (fewest s v cs) < s.low → feasible s v cs ≡ false
  none_light h = and_right (leb (certain cs) v.high && leb (low_sum cs) s.high) _ (and_right (leb (fewest s v cs) (most s v cs)) _ (lt-leb s.low (reach cs (fewest s v cs)) h))

  module _ (t : List ℕ) (sm : Sums) (a : Summed cs sm 64) (b : Topped cs t sm 64) where
    pub reach_is : (k : ℕ) → k ≤ sm.optional → sum_at t sm.base k ≡ reach cs k
    reach_is k l = omega (arith, a.bases, b.tops k l)

    module _ (least m : ℕ) (w : least ≡ v.low - certain cs) (x : m ≡ most s v cs) where
      pub fewest_is : (r : ℕ) → least ≤ r → r ≤ m → s.low ≤ sum_at t sm.base r → ((j : ℕ) → least ≤ j → j < r → sum_at t sm.base j < s.low)
          → r ≡ fewest s v cs
      fewest_is r p q h l =
          let o = a.optionals in
          sym (seek_first (reach cs) s.low (v.low - certain cs) (most s v cs - (v.low - certain cs)) r (omega arith) (omega arith) (omega (arith, reach_is r (omega arith))) (λ j y z. omega (arith, reach_is j (omega arith), l j (omega arith) z)))

      pub none_found : ((j : ℕ) → least ≤ j → j ≤ m → sum_at t sm.base j < s.low) → feasible s v cs ≡ false
      none_found l =
          let o = a.optionals in
          elim (cases_lt m least) [
            | inl p ↦ none_short (omega (arith, seek_past (reach cs) s.low (v.low - certain cs) (most s v cs) (omega arith)))
            | inr p ↦ let e : fewest s v cs ≡ m =
                seek_last (reach cs) s.low (v.low - certain cs) (most s v cs - (v.low - certain cs)) (λ j y z. omega (arith, reach_is j (omega arith), l j (omega arith) (omega arith))) ∙ omega arith in
                none_light (rw e (omega (arith, reach_is m (omega arith), l m p (omega arith))))
          ]

    module _ (floor ceiling m r over j : ℕ) (f : floor ≡ s.low) (g : ceiling ≡ s.high) (d : j ≡ r - 1)
        (x : m ≡ most s v cs) (l : r ≤ m) (q : low_sum cs ≤ s.high) (h : s.low ≤ sum_at t sm.base r) where
      abbrev made : ℕ → Frame
      made over = frame_made sm floor ceiling r m (sum_at t sm.base j) (sum_at t sm.base m) over

      pub small : floor < 65536 → ceiling < 65536 → v.high < 65536 → (n : ℕ) → Small (made n)
      small y z k n =
          let o = a.optionals in let n = a.least in
          let at_r = reach_is r (omega arith) in let at_m = reach_is m (omega arith) in let up = top_mono cs r m l in
          record {
            floor = y;
            ceiling = z;
            least = omega arith;
            few = omega arith;
            under = omega (arith, b.limit j (omega arith));
            enough = omega arith;
            order = l;
            light = omega arith;
            kinds = omega (arith, a.certains);
          }

      pub framed : r ≡ fewest s v cs → certain cs ≤ v.high → over ≡ min sm.optional (m + 1)
          → (feasible s v cs ≡ true) × (made (sum_at t sm.base over) ≡ frame_of s v cs)
      framed y p z =
          let o = a.optionals in let n = a.least in
          let at_r = reach_is r (omega arith) in
          let low_r : s.low ≤ reach cs (fewest s v cs) = rw y at (rw at_r at h) in
          let e_at : sum_at t sm.base m ≡ reach cs (most s v cs) = reach_is m (omega arith) ∙ ap (reach cs) x in
          let e_under : sum_at t sm.base j ≡ reach cs (fewest s v cs - 1) = reach_is j (omega arith) ∙ ap (reach cs) d ∙ ap (λ k. reach cs (k - 1)) y in
          let e_over : sum_at t sm.base over ≡ reach cs (suc (most s v cs)) = reach_is over (omega arith) ∙ elim (cases_lt m sm.optional) [
            | inl u ↦ let i : over ≡ suc m = omega arith in ap (reach cs) i ∙ ap (λ k. reach cs (suc k)) x
            | inr u ↦ let i : over ≡ m = omega arith in
                ap (reach cs) i ∙ ap (λ k. base cs + k) (sym (top_full cs m (omega arith))) ∙ ap (λ k. reach cs (suc k)) x
          ] in (
            and_from _ _ (and_from _ _ (le-leb (certain cs) v.high p) (le-leb (low_sum cs) s.high q))
                (and_from _ _ (le-leb (fewest s v cs) (most s v cs) (omega arith)) (le-leb s.low (reach cs (fewest s v cs)) low_r)),
            λ i. record { floor = f i; ceiling = g i; certain = a.certains i; optional = o i; lows = n i; fewest = y i; most = x i; under = e_under i; at = e_at i; over = e_over i },
          )

    pub spanned : (m r : ℕ) → sm.optional < length t → m ≡ most s v cs → r ≤ m → low_sum cs ≤ s.high → s.low ≤ sum_at t sm.base r
        → s.low < 65536 → s.high < 65536 → v.high < 65536 → Spanned s sm t r m
    spanned m r e x l q h y z k = let o = a.optionals in record {
      whole = e;
      order = l;
      exist = omega arith;
      few = omega (arith, a.few);
      light = λ j i. omega (arith, b.limit j i);
      small = small s.low s.high m r (min sm.optional (m + 1)) (r - 1) refl refl refl x l q h y z k _;
    }
