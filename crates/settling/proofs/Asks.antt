-- How far a scan has come that asks which rules it wakes, and what a settle that goes on from there has settled.
use Rattle.std.proofs.Common.{◌≡◌, ℕ, ◌+◌, ◌*◌, ◌<◌, ◌≤◌, true, ◌≢◌, List, length, Some, None, sym, refl, ap, ◌∙◌, subst, inl, inr, arith}
use Rattle.std.proofs.lemmas.Bool.{cases_Bool, cases_eq, cases_lt}
use Rattle.bounds.specs.declared.row.Row.{Row}
use Rattle.bounds.specs.Boards.{cells, sound, Real, spread}
use Rattle.bounds.specs.Laws.{Meaning, FiveLaws, Rule}
use Rattle.bounds.proofs.Rows.{spread_pos, cells_void, cells_same}
use Rattle.rule_families.specs.declared.change.Change.TheVariants.{Quiet, Narrowed, Void as Voided}
use Rattle.rule_families.specs.Narrows.{Narrows}
use Rattle.rule_sets.specs.declared.rule_set.RuleSet.{RuleSet}
use Rattle.rule_sets.specs.Members.{Removed, Lowest as LowestOf}
use Rattle.settling.specs.declared.settled.Settled.{Settled}
use Rattle.settling.specs.declared.settled.Settled.TheVariants.{Settled as Ended, Void as Emptied}
use Rattle.settling.specs.Asleep.{Asked}
use Rattle.settling.specs.Plans.{Applies, stay, more}
use Rattle.settling.specs.Settles.{Settles, Begun, later}
use Rattle.settling.proofs.Applied.{QuietBelow, lowest_narrows, lowest_voids, applied_keeps, applied_narrower}
use Rattle.settling.proofs.Sleeps.{stays_quiet}

module _ (m : Meaning) (laws : FiveLaws m) (a b : List Row) (n : ℕ) (p : RuleSet) (s : sound a ≡ true) (h : Begun m a b n p) where
  pub begun_sound : sound b ≡ true
  begun_sound = (applied_keeps m laws s h.applied).still_sound

  -- nothing is pending
  pub begun_ends : (words : ℕ) → m.size ≤ 64 * words → LowestOf p words None → Settles m a b (Ended n)
  begun_ends words room none = (h.applied, λ q l. h.asleep q l (none q (omega (arith, room))), begun_sound, h.long)

  module _ (words r : ℕ) (low : LowestOf p words (Some r)) where
    below : r ≤ m.size → QuietBelow m b r
    below l q less = h.asleep q (omega arith) (low.2 q less)

    -- a rule past the last narrows nothing
    listed : (m.rule r).narrowed b ≢ cells b → r < m.size
    listed moves = elim (cases_lt r m.size) [
      | inl l ↦ l
      | inr k ↦ absurd (moves (ap (λ (u : Rule). u.narrowed b) (laws.beyond r k)))
    ]

    module _ (c : List Row) where
      pub begun_voids : Narrows (m.rule r).narrowed b c Voided → Settles m a c (Emptied (n + 1))
      begun_voids (voids, same) =
          let l = listed (λ e. cells_void b (sym e ∙ voids)) in
          subst (λ (x : List Row). Settles m a x (Emptied (n + 1))) (sym same)
          ((n, r, refl, h.applied, lowest_voids m b r l (below (omega arith)) voids, voids), begun_sound, h.long)

      pub begun_quiet : (p' : RuleSet) → Narrows (m.rule r).narrowed b c Quiet → Removed p r p' → Begun m a c n p'
      begun_quiet p' (quiet, same) gone = subst (λ (x : List Row). Begun m a x n p') (sym same) (record {
        applied = h.applied;
        asleep = λ q l off. elim (cases_eq q r) [
          | inl e ↦ ap (λ i. (m.rule i).narrowed b) e ∙ quiet
          | inr apart ↦ h.asleep q l (sym (gone.others q apart) ∙ off)
        ];
        long = h.long;
      })

      pub begun_narrows : (p' : RuleSet) → Narrows (m.rule r).narrowed b c Narrowed → Asked m (length c) r p p' → length c ≡ length b → Begun m a c (n + 1) p'
      begun_narrows p' (narrows, moved) asked long =
          let l = listed (λ e. moved (cells_same c b (sym narrows ∙ e))) in
          let t = subst Real narrows ((laws.each r).real b begun_sound) in
          let at_length : (i k : ℕ) → (m.rule i).touches (length b) k ≡ (m.rule i).touches (length c) k = λ i k. ap (λ j. (m.rule i).touches j k) (sym long) in record {
            applied = more h.applied r (lowest_narrows m b r l (below (omega arith)) c narrows moved) narrows;
            asleep = λ q k no.
                let (was, apart) = asked q k no in
                stays_quiet m laws b c q begun_sound t (sym long)
                (λ i j touched. elim (cases_Bool ((m.rule r).touches (length b) i)) [
                  | inl u ↦ absurd (apart i (omega (arith, long)) (sym (at_length r i) ∙ u) (sym (at_length q i) ∙ touched))
                  | inr u ↦ (laws.each r).local_frame b c begun_sound narrows i j u
                ])
                (h.asleep q k was);
            long = long ∙ h.long;
          }

-- applications, and then more of them
then_applies : (m : Meaning) (a : List Row) (n : ℕ) {b c : List Row} {k : ℕ} → Applies m a b n → Applies m b c k → Applies m a c (n + k)
then_applies m a n x (stay {a = b}) = subst (λ (j : ℕ). Applies m a b j) (omega arith) x
then_applies m a n x (more {c = c} y r low e) = subst (λ (j : ℕ). Applies m a c j) (omega arith) (more (then_applies m a n x y) r low e)

pub settles_on : (m : Meaning) (a b c : List Row) (n : ℕ) (p : RuleSet) (r : Settled) → Begun m a b n p → Settles m b c r → Settles m a c (later n r)
settles_on m a b c n p (Ended k) h (applied, still, good, long) = (then_applies m a n h.applied applied, still, good, long ∙ h.long)
settles_on m a b c n p (Emptied k) h ((i, r, e, applied, low, voids), good, long) =
    ((n + i, r, omega (arith, e), then_applies m a n h.applied applied, low, voids), good, long ∙ h.long)

-- what goes on from there is no more than the width
pub settles_fits : (m : Meaning) → FiveLaws m → (a b : List Row) → sound a ≡ true → (k : ℕ) → Settles m a b (Ended k) → k < spread a
settles_fits m laws a b s k x = omega (arith, applied_narrower m laws s x.0, spread_pos b)

pub voids_fits : (m : Meaning) → FiveLaws m → (a b : List Row) → sound a ≡ true → (k : ℕ) → Settles m a b (Emptied k) → k ≤ spread a
voids_fits m laws a b s k ((i, r, e, applied, low, voids), good, long) = omega (arith, applied_narrower m laws s applied, spread_pos b, e)
