-- At first no rule is listed.
use Rattle.std.proofs.Common.{◌≡◌, ℕ, ◌<◌, ◌≤◌, ◌+◌, ◌%◌, replicate, ◌≢◌, List, ◌&&◌, false, ltb, lt-ltb, sym, ap, ◌∙◌, subst, inl, inr, arith}
use Rattle.std.proofs.lemmas.Bool.{cases_Bool, cases_eq, cases_lt, ltb-true, le-ltb, true≢false}
use Rattle.bounds.specs.Laws.{Meaning, Idempotent}
use Rattle.std.proofs.lemmas.List.{get_or-replicate}
use Rattle.rule_sets.specs.declared.rule_set.RuleSet.{RuleSet}
use Rattle.rule_sets.specs.Members.{has, Empty, Inserted, no_rules}
use Rattle.std.specs.Int.{bit_at}
use Rattle.settling.specs.declared.watchers.Watchers.{Watchers}
use Rattle.settling.specs.Watching.{watching, Listed, ListedBelow, AllIdempotent, Reaches, Watching, WatchingBelow}

none_below : (q : ℕ) → ltb q 0 ≡ false
none_below q = elim (cases_Bool (ltb q 0)) [
  | inl e ↦ absurd (omega (arith, ltb-true q 0 e))
  | inr e ↦ e
]

pub none_listed : (m : Meaning) (n : ℕ) (s t : RuleSet) (words : ℕ) (reach : List ℕ) → n ≤ 1024 → Empty s
    → ListedBelow m n 0 (record { by_cell = replicate 1024 s; words = words; reach = reach; idempotent = t })
none_listed m n s t words reach few empty c q l =
    ap (λ u. has u q) (get_or-replicate 1024 c s no_rules (omega arith)) ∙ empty q ∙ ap (λ b. b && (m.rule q).touches n c) (sym (none_below q))

pub none_known : (m : Meaning) (s : RuleSet) → Empty s → AllIdempotent m s
none_known m s empty q e = absurd (true≢false (sym e ∙ empty q))

pub known_more : (m : Meaning) (s t : RuleSet) (r : ℕ) → AllIdempotent m s → Inserted s r t → Idempotent (m.rule r) → AllIdempotent m t
known_more m s t r known more here q e = elim (cases_eq q r) [
  | inl same ↦ subst (λ i. Idempotent (m.rule i)) (sym same) here
  | inr apart ↦ known q (sym (more.others q apart) ∙ e)
]

one_later : (q r : ℕ) → q ≢ r → ltb q r ≡ ltb q (r + 1)
one_later q r apart = elim (cases_lt q r) [
  | inl l ↦ lt-ltb q r l ∙ sym (lt-ltb q (r + 1) (omega arith))
  | inr g ↦ le-ltb q r g ∙ sym (le-ltb q (r + 1) (omega (arith, apart)))
]

-- one rule more
module _ (m : Meaning) (n r : ℕ) (w w' : Watchers) (l : Listed m n r w w') where
  listed_more : ListedBelow m n r w → ListedBelow m n (r + 1) w'
  listed_more h c q k = elim (cases_eq q r) [
    | inl same ↦ subst (λ i. has (watching w' c) i ≡ (ltb i (r + 1) && (m.rule i).touches n c)) (sym same)
        (l.rule c k (h c r k ∙ ap (λ b. b && (m.rule r).touches n c) (le-ltb r r (omega arith)))
        ∙ ap (λ b. b && (m.rule r).touches n c) (sym (lt-ltb r (r + 1) (omega arith))))
    | inr apart ↦ l.others c q apart ∙ h c q k ∙ ap (λ b. b && (m.rule q).touches n c) (one_later q r apart)
  ]

  known_still : AllIdempotent m w.idempotent → AllIdempotent m w'.idempotent
  known_still = subst (AllIdempotent m) (sym l.idempotent)

  reach_more : ((q : ℕ) → q < r → Reaches m n q w) → (q : ℕ) → q < r + 1 → Reaches m n q w'
  reach_more below q o c k touched = elim (cases_eq q r) [
    | inl same ↦ subst (λ i. Reaches m n i w') (sym same) l.reach c k touched
    | inr apart ↦ ap (λ x. bit_at x (c % 64)) (l.other_reach q apart) ∙ below q (omega arith) c k touched
  ]

-- the table so far, as a word that search takes whole
unfoldable pub WatchesTo : Meaning → ℕ → ℕ → Watchers → Type 0
WatchesTo = WatchingBelow

pub one_more_rule : (m : Meaning) (n r : ℕ) (w w' : Watchers) → WatchesTo m n r w → Listed m n r w w' → WatchesTo m n (r + 1) w'
unfolding WatchesTo
one_more_rule m n r w w' at l = record {
  room = omega (arith, at.room, l.words);
  few = omega (arith, at.few, l.words);
  listed = listed_more m n r w w' l at.listed;
  reach = reach_more m n r w w' l at.reach;
  known = known_still m n r w w' l at.known;
}

pub no_rules_yet : (m : Meaning) (n : ℕ) (w : Watchers) → WatchingBelow m n 0 w → WatchesTo m n 0 w
unfolding WatchesTo
no_rules_yet m n w at = at

pub all_rules : (m : Meaning) (n r : ℕ) (w : Watchers) → r ≡ m.size → WatchesTo m n r w → Watching m n w
unfolding WatchesTo
all_rules m n r w e at = subst (λ k. WatchingBelow m n k w) e at
