-- The closed form is the exact narrowing of the plate rule.
use Rattle.std.proofs.Common.{◌≡◌, ℕ, zero, suc, ◌+◌, ◌-◌, ◌<◌, ◌≤◌, min, max, true, false, leb, List, [], ◌∷◌, map, length, get_or, set, sym, refl, ap, ◌∙◌, arith}
use Rattle.std.proofs.lemmas.List.{length-map, get_or-map}
use Rattle.std.proofs.lemmas.Bool.{leb-true, and_parts, and_from, eqb-true, eq-eqb, cond_both, both_ways}
use Rattle.bounds.specs.declared.row.Row.{Row}
use Rattle.bounds.specs.Boards.{void, cells, sound, Fills, none_row}
use Rattle.bounds.specs.Exact.{exact}
use Rattle.bounds.proofs.Places.{low_at, high_at, fills_length, fills_at, at_fills, sound_at}
use Rattle.bounds.proofs.Rows.{sound_set}
use Rattle.bounds.proofs.Hulls.{Meeting}
use Rattle.bounds.proofs.Exactly.{exact_void, exact_unique}
use Rattle.plates.specs.Plates.{sum, present, plate}
use Rattle.plates.specs.Form.{certain, low_sum, reach, most, fewest, feasible, frame_at, count_of, rows_of, narrowed}
use Rattle.plates.proofs.Tops.{row, top_mono}
use Rattle.plates.proofs.Sums.{Split, split, room, attains}
use Rattle.plates.proofs.Moves.{Same, others, same_set, same_others}
use Rattle.plates.proofs.Counts.{Possible, Span, Low, High, Has, held, has_low, has_high}
use Rattle.plates.proofs.Spans.{span, possible_feasible}

-- a row fixed at the count of a filling
fills_set : (f : List ℕ) (cs : List Row) (i : ℕ) → Fills f cs → Fills f (set cs i (row (get_or f i 0) (get_or f i 0)))
fills_set [] [] i h = tt
fills_set [] (r ∷ cs) i h = absurd h
fills_set (n ∷ f) [] i h = absurd h
fills_set (n ∷ f) (r ∷ cs) zero h = (omega arith, omega arith, h.2)
fills_set (n ∷ f) (r ∷ cs) (suc i) h = (h.0, h.1, fills_set f cs i h.2)

set_fills : (f : List ℕ) (cs : List Row) (i n : ℕ) → i < length cs → low_at cs i ≤ n → n ≤ high_at cs i
    → Fills f (set cs i (row n n)) → Fills f cs × (get_or f i 0 ≡ n)
set_fills f [] i n l p q h = absurd (omega arith)
set_fills [] (r ∷ cs) zero n l p q h = absurd h
set_fills [] (r ∷ cs) (suc i) n l p q h = absurd h
set_fills (m ∷ f) (r ∷ cs) zero n l p q h = ((omega arith, omega arith, h.2), omega arith)
set_fills (m ∷ f) (r ∷ cs) (suc i) n l p q h = let t = set_fills f cs i n (omega arith) p q h.2 in ((h.0, h.1, t.0), t.1)

sound_others : (cs : List Row) (i : ℕ) → sound cs ≡ true → sound (others cs i) ≡ true
sound_others [] i s = s
sound_others (r ∷ cs) zero s = (and_parts _ _ s).1
sound_others (r ∷ cs) (suc i) s = let t = and_parts (leb r.low r.high) (sound cs) s in and_from _ _ t.0 (sound_others cs i t.1)

module _ (s v : Row) where
  same_possible : (cs ds : List Row) (k : ℕ) → Same cs ds → Possible s v cs k → Possible s v ds k
  same_possible cs ds k e p = let t = e.tops k in
      record { exist = omega arith; enough = omega arith; few = omega arith; light = omega arith; heavy = omega arith }

  possible_same : (cs ds : List Row) (k : ℕ) → Same cs ds → Possible s v ds k → Possible s v cs k
  possible_same cs ds k e p = let t = e.tops k in
      record { exist = omega arith; enough = omega arith; few = omega arith; light = omega arith; heavy = omega arith }

  same_span : (cs ds : List Row) (k1 k2 : ℕ) → Same cs ds → Span s v cs k1 k2 → Span s v ds k1 k2
  same_span cs ds k1 k2 e p = record {
    first = same_possible cs ds k1 e p.first;
    last = same_possible cs ds k2 e p.last;
    between = λ k w. p.between k (possible_same cs ds k e w);
  }

  same_count : (cs ds : List Row) (k1 k2 : ℕ) (r : Row) → Same cs ds → count_of (frame_at s cs k1 k2) r ≡ count_of (frame_at s ds k1 k2) r
  same_count cs ds k1 k2 r e = ap (λ f. count_of f r) (λ i. record {
    floor = s.low;
    ceiling = s.high;
    certain = e.certains i;
    optional = e.optionals i;
    lows = e.least i;
    fewest = k1;
    most = k2;
    under = e.bases i + e.tops (k1 - 1) i;
    at = e.bases i + e.tops k2 i;
    over = e.bases i + e.tops (suc k2) i;
  })

  abbrev Meets : List Row → List ℕ → Type 0
  Meets cs p = Meeting plate (s ∷ (v ∷ cs)) p

  found : (cs : List Row) (a b : ℕ) (f : List ℕ) → Meets cs (a ∷ (b ∷ f)) → (k : ℕ) × Possible s v cs k × (a ≡ sum f) × (b ≡ certain cs + k) × Split f cs k
  found cs a b f m =
      let (k, t) = split f cs m.0.2.2 in
      let e = and_parts _ _ m.1 in let x = eqb-true a (sum f) e.0 in let y = eqb-true b (present f) e.1 in
      let bs = m.0.2 in
      (k, record { exist = t.most; enough = omega arith; few = omega arith; light = omega arith; heavy = omega arith }, x, omega arith, t)

  record Made (cs : List Row) (k a : ℕ) : Type 0 where
    counts : List ℕ
    meets : Meets cs (a ∷ ((certain cs + k) ∷ counts))

  abbrev all : {cs : List Row} {k a : ℕ} → Made cs k a → List ℕ
  all {cs} {k} {a} m = a ∷ ((certain cs + k) ∷ m.counts)

  made : (cs : List Row) → sound cs ≡ true → (k a : ℕ) → Possible s v cs k → s.low ≤ a → a ≤ s.high → low_sum cs + k ≤ a → a ≤ reach cs k → Made cs k a
  made cs sd k a w p q x y =
      let f = attains cs sd k a w.exist x y in
      record { counts = f.counts; meets = ((p, q, (w.enough, w.few, f.fills)), and_from _ _ (eq-eqb a _ (sym f.adds)) (eq-eqb (certain cs + k) _ (sym f.number))) }

  module _ (cs : List Row) (sd : sound cs ≡ true) (ss : s.low ≤ s.high) where
    -- a filling with k present, of the least sum
    least : (k : ℕ) → Possible s v cs k → Made cs k (max s.low (low_sum cs + k))
    least k w = let r = room cs sd k w.exist in made cs sd k _ w (omega arith) (omega arith) (omega arith) (omega arith)

    fixed : (i n : ℕ) → i < length cs → Has s v (others cs i) (low_at cs i) (high_at cs i) n → (p : List ℕ) × Meets cs p × (get_or p (suc (suc i)) 0 ≡ n)
    fixed i n l (k, p, q, w) =
        let ds = set cs i (row n n) in
        let u = possible_same ds (row n n ∷ others cs i) k (same_set cs i (row n n) l) w in
        let ds_sound = sound_set cs i (row n n) sd (omega arith) in
        let r = room ds ds_sound k u.exist in
        let m = made ds ds_sound k (max s.low (low_sum ds + k)) u (omega arith) (omega arith) (omega arith) (omega arith) in
        let f = m.meets.0 in
        let t = set_fills m.counts cs i n l p q f.2.2 in
        (all m, ((f.0, f.1, (f.2.0, f.2.1, t.0)), m.meets.1), t.1)

    module _ (k1 k2 : ℕ) (sp : Span s v cs k1 k2) where
      module _ (i : ℕ) (l : i < length cs) where
        span_at : Span s v (get_or cs i none_row ∷ others cs i) k1 k2
        span_at = same_span cs _ k1 k2 (same_others cs i l) sp

        new_at : get_or (map (count_of (frame_at s cs k1 k2)) cs) i none_row
            ≡ record { low = Low s v (others cs i) (low_at cs i) (high_at cs i) k1 k2; high = High s v (others cs i) (low_at cs i) (high_at cs i) k1 k2 }
        new_at = get_or-map (count_of (frame_at s cs k1 k2)) cs i none_row none_row l ∙ same_count cs _ k1 k2 (get_or cs i none_row) (same_others cs i l)

        count_held : (p : List ℕ) → Fills p cs → (a b : ℕ) → Meets cs (a ∷ (b ∷ p))
            → (low_at (map (count_of (frame_at s cs k1 k2)) cs) i ≤ get_or p i 0) × (get_or p i 0 ≤ high_at (map (count_of (frame_at s cs k1 k2)) cs) i)
        count_held p f a b m =
            let n = get_or p i 0 in
            let g = fills_at p cs f i l in
            let ds = set cs i (row n n) in
            let mm : Meets ds (a ∷ (b ∷ p)) = ((m.0.0, m.0.1, (m.0.2.0, m.0.2.1, fills_set p cs i f)), m.1) in
            let (k, w, x, y, t) = found ds a b p mm in
            let u = same_possible ds (row n n ∷ others cs i) k (same_set cs i (row n n) l) w in
            let h = held s v (others cs i) (sound_others cs i sd) ss (low_at cs i) (high_at cs i) k1 k2 span_at n k g.0 g.1 u in
            rw (new_at, low_at, high_at) h

      holds : (p : List ℕ) → Meets cs p → Fills p (rows_of (frame_at s cs k1 k2) cs)
      holds [] m = absurd m.0
      holds (a ∷ []) m = absurd m.0.2
      holds (a ∷ (b ∷ p)) m =
          let f = m.0.2.2 in
          let (k, w, x, y, t) = found cs a b p m in
          let u = sp.between k w in
          let g = m.0 in
          let h = top_mono cs k k2 u.1 in
          let n = length-map cs (count_of (frame_at s cs k1 k2)) in (
            omega arith,
            omega arith,
            (
              omega arith,
              omega arith,
              at_fills p (map (count_of (frame_at s cs k1 k2)) cs) (fills_length p cs f ∙ sym n) (λ i l. count_held i (omega arith) p f a b m),
            ),
          )

      lowest : (c : ℕ) → c < length (rows_of (frame_at s cs k1 k2) cs) → (p : List ℕ) × Meets cs p × (get_or p c 0 ≡ low_at (rows_of (frame_at s cs k1 k2) cs) c)
      lowest zero h = let m = least k1 sp.first in (all m, m.meets, refl)
      lowest (suc zero) h = let m = least k1 sp.first in (all m, m.meets, refl)
      lowest (suc (suc i)) h =
          let l : i < length cs = omega (arith, length-map cs (count_of (frame_at s cs k1 k2))) in
          let (p, m, e) = fixed i _ l (has_low s v (others cs i) (sound_others cs i sd) ss (low_at cs i) (high_at cs i) k1 k2 (sound_at cs sd i l) (span_at i l)) in
          (p, m, e ∙ sym (ap (λ (r : Row). r.low) (new_at i l)))

      highest : (c : ℕ) → c < length (rows_of (frame_at s cs k1 k2) cs) → (p : List ℕ) × Meets cs p × (get_or p c 0 ≡ high_at (rows_of (frame_at s cs k1 k2) cs) c)
      highest zero h =
          let w = sp.last in let r = room cs sd k2 w.exist in
          let m = made cs sd k2 (min s.high (reach cs k2)) w (omega arith) (omega arith) (omega arith) (omega arith) in (all m, m.meets, refl)
      highest (suc zero) h = let m = least k2 sp.last in (all m, m.meets, refl)
      highest (suc (suc i)) h =
          let l : i < length cs = omega (arith, length-map cs (count_of (frame_at s cs k1 k2))) in
          let (p, m, e) = fixed i _ l (has_high s v (others cs i) (sound_others cs i sd) ss (low_at cs i) (high_at cs i) k1 k2 (sound_at cs sd i l) (span_at i l)) in
          (p, m, e ∙ sym (ap (λ (r : Row). r.high) (new_at i l)))

    none : feasible s v cs ≡ false → (p : List ℕ) → Meets cs p → ⊥
    none e [] m = m.0
    none e (a ∷ []) m = m.0.2
    none e (a ∷ (b ∷ p)) m = let (k, w, x, y, t) = found cs a b p m in both_ways (feasible s v cs) e (possible_feasible s v cs k w)

pub plate_exact : (s v : Row) (cs : List Row) → sound (s ∷ (v ∷ cs)) ≡ true → exact plate (s ∷ (v ∷ cs)) ≡ narrowed s v cs
plate_exact s v cs sd =
    let t = and_parts (leb s.low s.high) _ sd in
    let ss = leb-true s.low s.high t.0 in
    let u = and_parts (leb v.low v.high) (sound cs) t.1 in
    let k1 = fewest s v cs in let k2 = most s v cs in
    cond_both (feasible s v cs) (cells (rows_of (frame_at s cs k1 k2) cs)) void (λ b. exact plate (s ∷ (v ∷ cs)) ≡ b)
    (λ e. let sp = span s v cs e in
    exact_unique plate (s ∷ (v ∷ cs)) (rows_of (frame_at s cs k1 k2) cs) (omega arith)
    (holds s v cs u.1 ss k1 k2 sp) (lowest s v cs u.1 ss k1 k2 sp) (highest s v cs u.1 ss k1 k2 sp))
    (λ e. (exact_void plate (s ∷ (v ∷ cs))).1 (none s v cs u.1 ss e))
