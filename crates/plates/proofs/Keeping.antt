-- The counts that keep their bounds.
use Rattle.std.proofs.Common.{◌≡◌, ℕ, zero, suc, ◌+◌, ◌-◌, ◌<◌, ◌≤◌, min, max, false, cond, ◌&&◌, ltb, leb, List, [], ◌∷◌, map, get_or, refl, sym, ap, ◌∙◌, inl, inr, arith}
use Rattle.std.proofs.lemmas.Bool.{leb-true, leb-false, ltb-true, ltb-false, le-leb, and_parts, and_from, and_cases, cond_both, cond-true, cases_lt, false≢true}
use Rattle.bounds.specs.declared.row.Row.{Row}
use Rattle.plates.specs.declared.frame.Sums.{Sums}
use Rattle.plates.specs.declared.frame.Widths.{Widths}
use Rattle.plates.specs.Form.{Frame, optional, top, low_of, high_of, count_of}
use Rattle.plates.specs.Work.{Topped, Small, Wide, Wrote, gap, room, more, certain_kept, enter_kept, leave_kept, widths_kept, Kept}
use Rattle.plates.proofs.Tops.{row, top_zero, top_leaves, top_full}

module _ (f : Frame) (s : Small f) where
  leaves : (h : ℕ) → suc h ≤ leave_kept f → low_of f 0 (suc h) ≡ 0
  leaves h = cond_both (ltb f.fewest f.optional) (f.over - f.floor) 0 (λ n. suc h ≤ n → low_of f 0 (suc h) ≡ 0)
      (λ t p. cond-true (ltb f.fewest f.optional && leb (f.floor + suc h) f.over) 0 _ (and_from _ _ t (le-leb (f.floor + suc h) f.over (omega arith))))
      (λ t p. absurd (omega arith))

  low_kept : (h : ℕ) → h ≤ leave_kept f → low_of f 0 h ≡ 0
  low_kept zero p = refl
  low_kept (suc h) p = leaves h p

  more_kept : (h : ℕ) → h ≤ more f → cond (ltb f.fewest f.most) (min h (f.ceiling - (f.lows + f.fewest))) 0 ≡ h
  more_kept h p = cond_both (ltb f.fewest f.most) (room f) 0 (λ n. h ≤ n → cond (ltb f.fewest f.most) (min h (f.ceiling - (f.lows + f.fewest))) 0 ≡ h)
      (λ t q. cond-true _ _ _ t ∙ omega arith) (λ t q. cond_both (ltb f.fewest f.most) (min h (f.ceiling - (f.lows + f.fewest))) 0 (λ n. n ≡ h) (λ _. omega arith) (λ _. omega arith)) p

  more_room : more f ≤ room f
  more_room = cond_both (ltb f.fewest f.most) (room f) 0 (λ n. n ≤ room f) (λ _. omega arith) (λ _. omega arith)

  high_kept : (h : ℕ) → h ≤ enter_kept f → high_of f 0 h ≡ h
  high_kept h p =
      cond_both (ltb 0 f.fewest && leb f.floor (h + f.under)) (min h ((f.ceiling + 1) - (f.lows + f.fewest))) _ (λ n. n ≡ h)
      (λ _. let l = s.light in
      cond_both (ltb 0 f.fewest && leb f.floor ((more f + 1) + f.under)) (room f + 1) (more f) (λ n. h ≤ n → min h ((f.ceiling + 1) - (f.lows + f.fewest)) ≡ h) (λ _ q. omega arith) (λ _ q. omega (arith, more_room)) p)
      (λ t. more_kept h
      (cond_both (ltb 0 f.fewest && leb f.floor ((more f + 1) + f.under)) (room f + 1) (more f) (λ n. h ≤ n → h ≤ more f)
      (λ u q. let v = and_parts (ltb 0 f.fewest) (leb f.floor ((more f + 1) + f.under)) u in elim (and_cases (ltb 0 f.fewest) (leb f.floor (h + f.under)) t) [ inl z ↦ absurd (omega (arith, ltb-false 0 f.fewest z, ltb-true 0 f.fewest v.0)) | inr z ↦ omega (arith, leb-false f.floor (h + f.under) z, leb-true f.floor ((more f + 1) + f.under) v.1) ])
      (λ _ q. q) p))

  pub optional_keeps : (h : ℕ) → h ≤ min (enter_kept f) (leave_kept f) → count_of f (row 0 h) ≡ row 0 h
  optional_keeps h p = λ i. record { low = low_kept h (omega arith) i; high = high_kept h (omega arith) i }

  pub certain_keeps : (l h : ℕ) → h ≤ suc l + certain_kept f → count_of f (row (suc l) h) ≡ row (suc l) h
  certain_keeps l h p = let a = s.enough in let b = s.light in λ i. record { low = e i; high = g i }
    where
      e : max (suc l) ((f.floor + h) - f.at) ≡ suc l
      e = let a = s.enough in omega arith

      g : min h ((f.ceiling + suc l) - (f.lows + f.fewest)) ≡ h
      g = let b = s.light in omega arith

  certain_at : (l h : ℕ) → 0 < l → h ≤ l + certain_kept f → row l h ≡ count_of f (row l h)
  certain_at zero h p q = absurd (omega arith)
  certain_at (suc l) h p q = sym (certain_keeps l h q)

  optional_at : (l h : ℕ) → l ≤ 0 → h ≤ l + min (enter_kept f) (leave_kept f) → row l h ≡ count_of f (row l h)
  optional_at (suc l) h p q = absurd (omega arith)
  optional_at zero h p q = sym (optional_keeps h (omega arith))

  pub kept_is : (w : Widths) → w ≡ widths_kept f → Kept f w
  kept_is w e = rw e record {
    certain = λ r. certain_at r.low r.high;
    optional = λ r. optional_at r.low r.high;
    light = let a = s.ceiling in omega arith;
    room = let a = s.ceiling in omega (arith, enter_room);
  }
    where
      enter_room : enter_kept f ≤ room f + 1
      enter_room = cond_both (ltb 0 f.fewest && leb f.floor ((more f + 1) + f.under)) (room f + 1) (more f) (λ n. n ≤ room f + 1) (λ _. omega arith) (λ _. omega (arith, more_room))

module _ (f : Frame) (k : Widths) (w : Kept f k) where
  keeps_front : (l h : ℕ) (cs : List Row) → map (count_of f) cs ≡ cs → gap (row l h ∷ cs) ≤ k.certain
      → top (row l h ∷ cs) 1 ≤ k.optional → map (count_of f) (row l h ∷ cs) ≡ row l h ∷ cs
  keeps_front zero h cs e p q = λ i. sym (w.optional (row 0 h) (omega arith) (omega (arith, top_zero cs))) i ∷ e i
  keeps_front (suc l) h cs e p q = λ i. sym (w.certain (row (suc l) h) (omega arith) (omega arith)) i ∷ e i

  keeps_all : (cs : List Row) → gap cs ≤ k.certain → top cs 1 ≤ k.optional → map (count_of f) cs ≡ cs
  keeps_all [] p q = refl
  keeps_all (r ∷ cs) p q = keeps_front r.low r.high cs (keeps_all cs (omega arith) (omega (arith, top_leaves r cs 1))) p q

  pub all_keep : (cs : List Row) (v : Widths) → Wide cs v → v.certain ≤ k.certain → v.optional ≤ k.optional → Wrote f cs cs false
  all_keep cs v d p q = record {
    is = sym (keeps_all cs (omega (arith, d.certain)) (omega (arith, d.optional)));
    same = λ _. refl;
    other = λ e. absurd (false≢true e);
  }

pub wide_is : (cs : List Row) (t : List ℕ) (sm : Sums) {g k : ℕ} → g ≡ gap cs → sm.optional ≡ optional cs → Topped cs t sm 64 → k ≡ min sm.optional 1
    → Wide cs (record { certain = g; optional = get_or t k 0 })
wide_is cs t sm {g} {k} e o d m = record {
  certain = e;
  optional = d.tops k (omega arith) ∙ elim (cases_lt 0 sm.optional) [
    | inl p ↦ let i : k ≡ 1 = omega arith in ap (top cs) i
    | inr p ↦ let i : k ≡ 0 = omega arith in ap (top cs) i ∙ sym (top_full cs 0 (omega arith))
  ];
}
