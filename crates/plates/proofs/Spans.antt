-- The k from fewest to most are those possible.
use Rattle.std.proofs.Common.{◌≡◌, ℕ, zero, suc, ◌+◌, ◌-◌, ◌≤◌, true, ltb, List, inl, inr, arith}
use Rattle.std.proofs.lemmas.Bool.{leb-true, le-leb, ltb-true, ltb-false, and_parts, and_from, cond_both, cases_lt}
use Rattle.bounds.specs.declared.row.Row.{Row}
use Rattle.plates.specs.Form.{certain, low_sum, reach, seek, most, fewest, feasible}
use Rattle.plates.proofs.Tops.{top_mono}
use Rattle.plates.proofs.Counts.{Possible, Span}

module _ (f : ℕ → ℕ) (need : ℕ) where
  seek_from : (k n : ℕ) → k ≤ seek f need k n
  seek_from k zero = omega arith
  seek_from k (suc n) = cond_both (ltb (f k) need) (seek f need (suc k) n) k (λ x. k ≤ x) (λ _. omega (arith, seek_from (suc k) n)) (λ _. omega arith)

  seek_first : (k n j : ℕ) → k ≤ j → j ≤ k + n → need ≤ f j → (seek f need k n ≤ j) × (need ≤ f (seek f need k n))
  seek_first k zero j p q h = let e : j ≡ k = omega arith in (p, rw e at h)
  seek_first k (suc n) j p q h = cond_both (ltb (f k) need) (seek f need (suc k) n) k (λ x. (x ≤ j) × (need ≤ f x))
      (λ t. let u = ltb-true (f k) need t in
      let later : suc k ≤ j = elim (cases_lt k j) [ inl l ↦ l | inr l ↦ let e : j ≡ k = omega arith in absurd (omega (arith, rw e at h)) ] in
      seek_first (suc k) n j later (omega arith) h)
      (λ t. (p, ltb-false (f k) need t))

module _ (s v : Row) (cs : List Row) where
  pub span : feasible s v cs ≡ true → Span s v cs (fewest s v cs) (most s v cs)
  span t =
      let p = and_parts _ _ t in let q = and_parts _ _ p.0 in let r = and_parts _ _ p.1 in
      let a = leb-true (certain cs) v.high q.0 in let b = leb-true (low_sum cs) s.high q.1 in
      let k1 = fewest s v cs in let k2 = most s v cs in
      let c = leb-true k1 k2 r.0 in let d = leb-true s.low (reach cs k1) r.1 in
      let e = seek_from (reach cs) s.low (v.low - certain cs) (k2 - (v.low - certain cs)) in
      record {
        first = record { exist = omega arith; enough = omega arith; few = omega arith; light = omega arith; heavy = d };
        last = record { exist = omega arith; enough = omega arith; few = omega arith; light = omega arith; heavy = omega (arith, top_mono cs k1 k2 c) };
        between = λ k w. ((seek_first (reach cs) s.low (v.low - certain cs) (k2 - (v.low - certain cs)) k (omega arith) (omega arith) w.heavy).0, omega arith);
      }

  pub possible_feasible : (k : ℕ) → Possible s v cs k → feasible s v cs ≡ true
  possible_feasible k w =
      let k1 = fewest s v cs in let k2 = most s v cs in
      let f = seek_first (reach cs) s.low (v.low - certain cs) (k2 - (v.low - certain cs)) k (omega arith) (omega arith) w.heavy in
      and_from _ _ (and_from _ _ (le-leb (certain cs) v.high (omega arith)) (le-leb (low_sum cs) s.high (omega arith)))
      (and_from _ _ (le-leb k1 k2 (omega arith)) (le-leb s.low (reach cs k1) f.1))
