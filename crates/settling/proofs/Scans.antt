-- How far the scan over the pending rules has come.
use Rattle.std.proofs.Common.{◌≡◌, ℕ, ◌+◌, ◌<◌, ◌≤◌, true, ◌≢◌, List, length, Option, Some, None, sym, refl, ap, ◌∙◌, subst, inl, inr, arith}
use Rattle.std.proofs.lemmas.Bool.{cases_eq, cases_lt}
use Rattle.std.proofs.lemmas.Option.{none-some}
use Rattle.bounds.specs.declared.row.Row.{Row}
use Rattle.bounds.specs.Boards.{cells, sound, Real, spread}
use Rattle.bounds.specs.Laws.{Meaning, FiveLaws, Rule}
use Rattle.bounds.proofs.Rows.{spread_pos, cells_void, cells_same}
use Rattle.rule_families.specs.declared.change.Change.TheVariants.{Quiet, Narrowed, Void as Voided}
use Rattle.rule_families.specs.Narrows.{Narrows}
use Rattle.rule_sets.specs.declared.rule_set.RuleSet.{RuleSet}
use Rattle.rule_sets.specs.Members.{Removed, Lowest as LowestOf}
use Rattle.settling.specs.declared.settled.Settled.TheVariants.{Settled, Void}
use Rattle.settling.specs.declared.folded.FoldedWatchers.{FoldedWatchers}
use Rattle.settling.specs.Asleep.{Asleep, Woken}
use Rattle.settling.specs.Plans.{Applies, more}
use Rattle.settling.specs.Settles.{Settles}
use Rattle.settling.specs.Folded.{FoldedWatching, FoldedRests}
use Rattle.settling.proofs.Applied.{QuietBelow, lowest_narrows, lowest_voids, applied_keeps, applied_narrower}
use Rattle.settling.proofs.Sleeps.{stays_quiet}

-- n applications led from the rows a to b, which are as they were when rules were last woken, and a rule that is not pending
-- or is resting is quiet there
pub record Scanned (m : Meaning) (a b : List Row) (n : ℕ) (pending : RuleSet) (before : List Row) (resting : Option ℕ) : Type 0 where
  pub applied : Applies m a b n
  pub asleep : Asleep m b pending
  pub rests : (q : ℕ) → resting ≡ Some q → (m.rule q).narrowed b ≡ cells b
  pub seen : before ≡ b
  pub long : length b ≡ length a

abbrev kept : ℕ → Option ℕ → ℕ
kept d None = d
kept d (Some q) = q

module _ (m : Meaning) (laws : FiveLaws m) (a b : List Row) (n : ℕ) (p : RuleSet) (f : List Row) (o : Option ℕ) (s : sound a ≡ true) (h : Scanned m a b n p f o) where
  pub scanned_sound : sound b ≡ true
  scanned_sound = (applied_keeps m laws s h.applied).still_sound

  -- an application narrows
  pub scanned_narrower : n < spread a
  scanned_narrower = omega (arith, applied_narrower m laws s h.applied, spread_pos b)

  module _ {C R : ℕ} (w : FoldedWatchers C R) (at : FoldedWatching m (length a) w) where
    is : FoldedWatching m (length b) w
    is = subst (λ (k : ℕ). FoldedWatching m k w) (sym h.long) at

    -- nothing is pending
    pub scan_ends : LowestOf p w.words None → Settles m a b (Settled n)
    scan_ends none = (h.applied, λ q l. h.asleep q l (none q (omega (arith, is.room))), scanned_sound, h.long)

    module _ (r : ℕ) (low : LowestOf p w.words (Some r)) where
      below : r ≤ m.size → QuietBelow m b r
      below l q less = h.asleep q (omega arith) (low.2 q less)

      -- a rule past the last narrows nothing
      listed : (m.rule r).narrowed b ≢ cells b → r < m.size
      listed moves = elim (cases_lt r m.size) [
        | inl l ↦ l
        | inr k ↦ absurd (moves (ap (λ (u : Rule). u.narrowed b) (laws.beyond r k)))
      ]

      pub scan_voids : (c : List Row) → Narrows (m.rule r).narrowed b c Voided → Settles m a c (Void (n + 1))
      scan_voids c (voids, same) =
          let l = listed (λ e. cells_void b (sym e ∙ voids)) in
          subst (λ (x : List Row). Settles m a x (Void (n + 1))) (sym same)
          ((n, r, refl, h.applied, lowest_voids m b r l (below (omega arith)) voids, voids), scanned_sound, h.long)

      -- a rule that need not be pending
      asleep_without : (m.rule r).narrowed b ≡ cells b → (p' : RuleSet) → Removed p r p' → Asleep m b p'
      asleep_without quiet p' gone q l off = elim (cases_eq q r) [
        | inl same ↦ ap (λ i. (m.rule i).narrowed b) same ∙ quiet
        | inr apart ↦ h.asleep q l (sym (gone.others q apart) ∙ off)
      ]

      pub scan_rests : (p' : RuleSet) → o ≡ Some r → Removed p r p' → Scanned m a b n p' f o
      scan_rests p' same gone = record {
        applied = h.applied;
        asleep = asleep_without (h.rests r same) p' gone;
        rests = h.rests;
        seen = h.seen;
        long = h.long;
      }

      module _ (c : List Row) (p' : RuleSet) (f' : List Row) where
        pub scan_quiet : Narrows (m.rule r).narrowed b c Quiet → Removed p r p' → f' ≡ c → Scanned m a c n p' f' o
        scan_quiet (quiet, same) gone seen =
            subst (λ (x : List Row). f' ≡ x → Scanned m a x n p' f' o) (sym same) (λ e. record {
              applied = h.applied;
              asleep = asleep_without quiet p' gone;
              rests = h.rests;
              seen = e;
              long = h.long;
            }) seen

        resting_now : (o' : Option ℕ) → FoldedRests w r o' → (m.rule r).narrowed b ≡ cells c
            → (q : ℕ) → o' ≡ Some q → (m.rule q).narrowed c ≡ cells c
        resting_now None rest narrows q e = absurd (none-some q e)
        resting_now (Some q') (same, known) narrows q e =
            ap (λ i. (m.rule i).narrowed c) (sym (ap (kept q) e) ∙ same) ∙ is.known r known b c scanned_sound narrows

        pub scan_narrows : (o' : Option ℕ) → FoldedRests w r o' → Narrows (m.rule r).narrowed b c Narrowed → Woken w b c p p' → f' ≡ c
            → length c ≡ length b → Scanned m a c (n + 1) p' f' o'
        scan_narrows o' rest (narrows, moved) woken seen long =
            let l = listed (λ e. moved (cells_same c b (sym narrows ∙ e))) in
            let t = subst Real narrows ((laws.each r).real b scanned_sound) in record {
              applied = more h.applied r (lowest_narrows m b r l (below (omega arith)) c narrows moved) narrows;
              asleep = λ q k no.
                  let (was, unstirred) = woken q (omega (arith, is.room)) no in
                  stays_quiet m laws b c q scanned_sound t (sym long)
                  (λ i j touched. unstirred i (omega arith) tt (is.listed i q j k touched))
                  (h.asleep q k was);
              rests = resting_now o' rest narrows;
              seen = seen;
              long = long ∙ h.long;
            }
