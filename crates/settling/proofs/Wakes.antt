-- How far the rules are woken and the rows taken over: more cells, one by one and bit by bit.
use Rattle.std.proofs.Common.{◌≡◌, ℕ, ◌+◌, ◌%◌, ◌<◌, ◌≤◌, ◌⊎◌, List, length, sym, refl, ap, ◌∙◌, subst, inl, inr, arith}
use Rattle.std.specs.Int.{bit_at}
use Rattle.std.proofs.lemmas.Bool.{cases_eq, cases_lt}
use Rattle.std.proofs.lemmas.List.{ext_get_or}
use Rattle.std.proofs.lemmas.Nat.Bits.{bit_at-zero}
use Rattle.bounds.specs.declared.row.Row.{Row}
use Rattle.bounds.specs.Boards.{none_row}
use Rattle.rule_sets.specs.declared.rule_set.RuleSet.{RuleSet}
use Rattle.rule_sets.specs.Members.{WithoutBit}
use Rattle.settling.specs.declared.folded.FoldedWatchers.{FoldedWatchers}
use Rattle.settling.specs.Asleep.{WokenAmong, Woken, Taken, SameOutside, Within64}

-- P holds of cell k and of those of which it held before, and of no more
pub record OneMore (P P' : ℕ → Type 0) (k : ℕ) : Type 0 where
  pub one : (c : ℕ) → P' c → P c ⊎ (c ≡ k)
  pub kept : (c : ℕ) → P c → P' c
  pub here : P' k
  pub apart : P k → ⊥

module _ {C R : ℕ} (w : FoldedWatchers C R) (a b : List Row) (P P' : ℕ → Type 0) (k : ℕ) (more : OneMore P P' k) where
  module _ (a' : List Row) (t : Taken P a b a') where
    pub woken_one : (p p' p'' : RuleSet) → WokenAmong w P a b p p' → WokenAmong w (λ c. c ≡ k) a' b p' p'' → WokenAmong w P' a b p p''
    woken_one p p' p'' h f q l off =
        let (not_then, here) = f q l off in
        let (was, before) = h q l not_then in (
          was,
          λ c o m touched. elim (more.one c m) [
            | inl d ↦ before c o d touched
            | inr e ↦ sym (t.others c (λ d. more.apart (subst P e d))) ∙ here c o e touched
          ],
        )

    pub taken_one : (a'' : List Row) → Taken (λ c. c ≡ k) a' b a'' → Taken P' a b a''
    taken_one a'' f = record {
      long = f.long ∙ t.long;
      taken = λ c o m. elim (more.one c m) [
        | inl d ↦ f.others c (λ e. more.apart (subst P e d)) ∙ t.taken c o d
        | inr e ↦ f.taken c o e
      ];
      others = λ c not. f.others c (λ e. not (subst P' (sym e) more.here)) ∙ t.others c (λ d. not (more.kept c d));
    }

  pub passed : length b ≤ k → (p p' : RuleSet) → WokenAmong w P a b p p' → WokenAmong w P' a b p p'
  passed past p p' h q l off = let (was, u) = h q l off in
      (was, λ c o m touched. elim (more.one c m) [ inl m ↦ u c o m touched | inr e ↦ absurd (omega (arith, past)) ])

  pub row_passed : length b ≤ k → (a' : List Row) → Taken P a b a' → Taken P' a b a'
  row_passed past a' t = record {
    long = t.long;
    taken = λ c l m. elim (more.one c m) [ inl m ↦ t.taken c l m | inr e ↦ absurd (omega (arith, past)) ];
    others = λ c not. t.others c (λ m. not (more.kept c m));
  }

-- those of 64 cells whose bit is not left
abbrev pub Done : ℕ → ℕ → ℕ → Type 0
Done first left c = Within64 first c × (bit_at left (c % 64) ≡ 0)

module _ (first left k left' : ℕ) (whole : first % 64 ≡ 0) (few : k < 64) (set : bit_at left k ≡ 1) (without : WithoutBit left k left') where
  pub step : OneMore (Done first left) (Done first left') (first + k)
  step = record {
    one = λ c m. elim (cases_eq (c % 64) k) [
      | inl e ↦ inr (omega (arith, m.0.0, m.0.1, whole))
      | inr n ↦ inl (m.0, sym (without.others (c % 64) (omega arith) n) ∙ m.1)
    ];
    kept = λ c m. (
      m.0,
      elim (cases_eq (c % 64) k) [
        | inl e ↦ ap (bit_at left') e ∙ without.gone
        | inr n ↦ without.others (c % 64) (omega arith) n ∙ m.1
      ],
    );
    here = ((omega arith, omega arith), ap (bit_at left') bit_here ∙ without.gone);
    apart = λ m. absurd (omega (arith, m.1, ap (bit_at left) bit_here, set));
  }
    where
      bit_here : (first + k) % 64 ≡ k
      bit_here = omega (arith, whole, few)

module _ {C R : ℕ} (w : FoldedWatchers C R) (a b : List Row) (first reach : ℕ) (same : SameOutside reach a b) where
  pub none_done : (p : RuleSet) → WokenAmong w (Done first reach) a b p p
  none_done p q l off = (off, λ c o m touched. same c o m.1)

  pub none_over : Taken (Done first reach) a b a
  none_over = record { long = refl; taken = λ c o m. same c o m.1; others = λ c not. refl }

module _ {C R : ℕ} (w : FoldedWatchers C R) (a b : List Row) (first left : ℕ) (none : left ≡ 0) where
  all_of : (c : ℕ) → Within64 first c → Done first left c
  all_of c m = (m, ap (λ x. bit_at x (c % 64)) none ∙ bit_at-zero (c % 64))

  pub all_done : (p p' : RuleSet) → WokenAmong w (Done first left) a b p p' → WokenAmong w (Within64 first) a b p p'
  all_done p p' h q l off = let (was, u) = h q l off in (was, λ c o m touched. u c o (all_of c m) touched)

  pub all_over : (a' : List Row) → Taken (Done first left) a b a' → Taken (Within64 first) a b a'
  all_over a' t = record {
    long = t.long;
    taken = λ c o m. t.taken c o (all_of c m);
    others = λ c not. t.others c (λ m. not m.0);
  }

-- the cells below one
abbrev pub Below : ℕ → ℕ → Type 0
Below first c = c < first

module _ {C R : ℕ} (w : FoldedWatchers C R) (a b : List Row) where
  pub none_below : (p : RuleSet) → WokenAmong w (Below 0) a b p p
  none_below p q l off = (off, λ c o m touched. absurd (omega arith))

  pub none_taken : Taken (Below 0) a b a
  none_taken = record { long = refl; taken = λ c o m. absurd (omega arith); others = λ c not. refl }

  module _ (first : ℕ) (a' : List Row) (t : Taken (Below first) a b a') where
    pub more_below : (p p' p'' : RuleSet) → WokenAmong w (Below first) a b p p' → WokenAmong w (Within64 first) a' b p' p''
        → WokenAmong w (Below (first + 64)) a b p p''
    more_below p p' p'' h f q l off =
        let (not_then, after) = f q l off in
        let (was, before) = h q l not_then in (
          was,
          λ c o m touched. elim (cases_lt c first) [
            | inl d ↦ before c o d touched
            | inr g ↦ sym (t.others c (λ d. absurd (omega (arith, g)))) ∙ after c o (g, m) touched
          ],
        )

    pub more_taken : (a'' : List Row) → Taken (Within64 first) a' b a'' → Taken (Below (first + 64)) a b a''
    more_taken a'' f = record {
      long = f.long ∙ t.long;
      taken = λ c o m. elim (cases_lt c first) [
        | inl d ↦ f.others c (λ e. absurd (omega (arith, e.0))) ∙ t.taken c o d
        | inr g ↦ f.taken c o (g, m)
      ];
      others = λ c not. f.others c (λ e. not e.1) ∙ t.others c (λ d. not (omega (arith, d)));
    }

    pub same_still : (reach : ℕ) → SameOutside reach a b → SameOutside reach a' b
    same_still reach same c o zero = elim (cases_lt c first) [
      | inl d ↦ t.taken c o d
      | inr g ↦ t.others c (λ d. absurd (omega (arith, g))) ∙ same c o zero
    ]

  module _ (first : ℕ) (past : length b ≤ first) where
    pub woken_all : (p p' : RuleSet) → WokenAmong w (Below first) a b p p' → Woken w a b p p'
    woken_all p p' h q l off = let (was, u) = h q l off in (was, λ c o m touched. u c o (omega (arith, o)) touched)

    pub taken_all : (a' : List Row) → length a ≡ length b → Taken (Below first) a b a' → a' ≡ b
    taken_all a' same t = ext_get_or none_row a' b (t.long ∙ same) (λ c l. t.taken c (omega (arith, t.long)) (omega (arith, t.long)))
