-- The rules and cells that are listed with each other: none at first, then those of one more rule.
use Rattle.std.proofs.Common.{◌≡◌, ℕ, Some, true, Bool, ◌&&◌, ◌||◌, length, get_or, set, take, replicate, refl, ◌<◌, ◌≤◌, ◌+◌, ◌*◌, ◌/◌, ◌%◌, ◌≢◌, List, false, eqb, ltb, lt-ltb, min, bit_and, ◌⊎◌, zero, suc, sym, ap, ◌∙◌, subst, inl, inr, arith}
use Rattle.std.proofs.lemmas.Bool.{ltb-true, cases_Bool, cases_eq, true≢false, eq-eqb, eqb-true, ne_eqb, and_parts, and_from}
use Rattle.bounds.specs.Laws.{Meaning}
use Rattle.bounds.specs.Scoped.{names}
use Rattle.bounds.proofs.Named.{names_next}
use Rattle.rule_families.specs.Marks.{Lists}
use Rattle.std.proofs.lemmas.List.{get_or-set_same, get_or-set_other, take_all}
use Rattle.std.proofs.lemmas.Nat.Bits.{bit_at_and, bit_at-lt, bit_at-zero}
use Rattle.rule_sets.specs.declared.rule_set.RuleSet.{RuleSet}
use Rattle.rule_sets.specs.Members.{has, WithBit, UnitedWord}
use Rattle.std.specs.Int.{bit_at}
use Rattle.settling.specs.Watching.{AllIdempotent}
use Rattle.settling.specs.declared.folded.FoldedWatchers.{FoldedWatchers}
use Rattle.settling.specs.Folded.{with_cell, with_rule, watched, ListsMore, FoldedListed, ListedAt, ListedWith, FoldedListedBelow, CellOnly, RuleOnly, FoldedReaches, FoldedWatching, FoldedWatchingBelow}

replicate_zero : (n i : ℕ) → get_or {A = ℕ} (replicate n 0) i 0 ≡ 0
replicate_zero zero i = refl
replicate_zero (suc n) zero = refl
replicate_zero (suc n) (suc i) = replicate_zero n i

pub none_on : (n i k : ℕ) → eqb (bit_at (get_or (replicate n 0) i 0) k) 1 ≡ true → ⊥
none_on n i k on = omega (arith, eqb-true _ 1 on, ap (λ x. bit_at x k) (replicate_zero n i) ∙ bit_at-zero k)

-- one rule more
module _ {C R : ℕ} (m : Meaning) (n r : ℕ) (w w' : FoldedWatchers C R) (l : FoldedListed m n r w w') where
  listed_more : FoldedListedBelow m n r w → FoldedListedBelow m n (r + 1) w'
  listed_more h c q k o touched = elim (cases_eq q r) [
    | inl same ↦ ap (watched w' c) same ∙ l.more.rule c (k, ap (λ i. (m.rule i).touches n c) (sym same) ∙ touched)
    | inr apart ↦ l.more.kept c q (h c q k (omega arith) touched)
  ]

  cell_only_more : CellOnly m n r w → CellOnly m n (r + 1) w'
  cell_only_more h c k few on = elim (l.more.cell_only c k few on) [
    | inl was ↦ let (q, below, is, touched) = h c k few was in (q, omega arith, is, touched)
    | inr new ↦ (r, omega arith, sym new.1, new.0.1)
  ]

  rule_only_more : RuleOnly m n r w → RuleOnly m n (r + 1) w'
  rule_only_more h q p few on = elim (l.more.rule_only q p few on) [
    | inl was ↦ let (below, at) = h q p few was in (omega arith, at)
    | inr new ↦
        let (same, (c, told, is)) = new in
        (omega arith, (c, told.0, is, ap (λ i. (m.rule i).touches n c) same ∙ told.1))
  ]

  known_still : AllIdempotent m w.idempotent → AllIdempotent m w'.idempotent
  known_still = subst (AllIdempotent m) (sym l.more.idempotent)

  reach_more : ((q : ℕ) → q < r → FoldedReaches m n q w) → (q : ℕ) → q < r + 1 → FoldedReaches m n q w'
  reach_more below q o c k touched = elim (cases_eq q r) [
    | inl same ↦ ap (λ i. bit_at (get_or w'.reach i 0) (c % 64)) same ∙ l.reach c (k, ap (λ i. (m.rule i).touches n c) (sym same) ∙ touched)
    | inr apart ↦ ap (λ x. bit_at x (c % 64)) (l.other_reach q apart) ∙ below q (omega arith) c k touched
  ]

-- a bit more in one of the words
module _ (ws : List ℕ) (i k x : ℕ) (fit : i < length ws) (more : WithBit (get_or ws i 0) k x) where
  pub bit_there : bit_at (get_or (set ws i x) i 0) k ≡ 1
  bit_there = ap (λ w. bit_at w k) (get_or-set_same ws i x 0 fit) ∙ more.there

  in_word : (j : ℕ) → j < 64 → bit_at (get_or ws i 0) j ≡ 1 → bit_at x j ≡ 1
  in_word j l was = elim (cases_eq j k) [
    | inl same ↦ ap (bit_at x) same ∙ more.there
    | inr apart ↦ more.others j l apart ∙ was
  ]

  pub bits_kept : (h j : ℕ) → j < 64 → bit_at (get_or ws h 0) j ≡ 1 → bit_at (get_or (set ws i x) h 0) j ≡ 1
  bits_kept h j l was = elim (cases_eq h i) [
    | inl same ↦ ap (λ t. bit_at (get_or (set ws i x) t 0) j) same ∙ ap (λ w. bit_at w j) (get_or-set_same ws i x 0 fit)
        ∙ in_word j l (ap (λ t. bit_at (get_or ws t 0) j) (sym same) ∙ was)
    | inr apart ↦ ap (λ w. bit_at w j) (get_or-set_other ws i h x 0 apart) ∙ was
  ]

  pub bit_only : (h j : ℕ) → j < 64 → bit_at (get_or (set ws i x) h 0) j ≡ 1 → (bit_at (get_or ws h 0) j ≡ 1) ⊎ ((h ≡ i) × (j ≡ k))
  bit_only h j l on = elim (cases_eq h i) [
    | inl same ↦ elim (cases_eq j k) [
      | inl is ↦ inr (same, is)
      | inr apart ↦ inl (ap (λ t. bit_at (get_or ws t 0) j) same ∙ sym (more.others j l apart) ∙ ap (λ w. bit_at w j) (sym (get_or-set_same ws i x 0 fit))
          ∙ ap (λ t. bit_at (get_or (set ws i x) t 0) j) (sym same) ∙ on)
    ]
    | inr apart ↦ inl (ap (λ w. bit_at w j) (sym (get_or-set_other ws i h x 0 apart)) ∙ on)
  ]

on : (a : ℕ) → a ≡ 1 → eqb a 1 ≡ true
on a e = eq-eqb a 1 e

-- rule r is listed with cell x by a bit in each of two words
module _ {C R : ℕ} (w : FoldedWatchers C R) (r x a b : ℕ) (cell : x < length w.by_cell) (word : 64 * (r / 64) + x % 64 < length w.by_word)
    (ma : WithBit (get_or w.by_cell x 0) (r % 64) a) (mb : WithBit (get_or w.by_word (64 * (r / 64) + x % 64) 0) (r % 64) b) where
  abbrev near : ℕ
  near = 64 * (r / 64) + x % 64

  abbrev pub marked : FoldedWatchers C R
  marked = record { by_cell = set w.by_cell x a; by_word = set w.by_word near b; words = w.words; reach = w.reach; idempotent = w.idempotent }

  still : (c q : ℕ) → watched w c q ≡ true → watched marked c q ≡ true
  still c q was =
      let (cell_was, rule_was) = and_parts (with_cell w c (q % 64)) (with_rule w q (c % 64)) was in
      and_from _ _
      (on _ (bits_kept w.by_cell x (r % 64) a cell ma c (q % 64) (omega arith) (eqb-true _ 1 cell_was)))
      (on _ (bits_kept w.by_word near (r % 64) b word mb (64 * (q / 64) + c % 64) (q % 64) (omega arith) (eqb-true _ 1 rule_was)))

  cell_only : (c k : ℕ) → k < 64 → with_cell marked c k ≡ true → (with_cell w c k ≡ true) ⊎ ((c ≡ x) × (k ≡ r % 64))
  cell_only c k few e = elim (bit_only w.by_cell x (r % 64) a cell ma c k few (eqb-true _ 1 e)) [
    | inl was ↦ inl (on _ was)
    | inr new ↦ inr new
  ]

  rule_only : (q p : ℕ) → p < 64 → with_rule marked q p ≡ true → (with_rule w q p ≡ true) ⊎ ((q ≡ r) × ((c : ℕ) × (c ≡ x) × (c % 64 ≡ p)))
  rule_only q p few e = elim (bit_only w.by_word near (r % 64) b word mb (64 * (q / 64) + p) (q % 64) (omega arith) (eqb-true _ 1 e)) [
    | inl was ↦ inl (on _ was)
    | inr new ↦ let (same, bit) = new in inr (omega (arith, same, bit), (x, refl, omega (arith, same)))
  ]

  pub listed_at : ListedAt r x w marked
  listed_at = (
    record {
      words = refl;
      idempotent = refl;
      rule = λ c same. ap (λ k. watched marked k r) same
          ∙ and_from _ _ (on _ (bit_there w.by_cell x (r % 64) a cell ma)) (on _ (bit_there w.by_word near (r % 64) b word mb));
      kept = still;
      cell_only = cell_only;
      rule_only = rule_only;
    },
    refl,
  )

-- rule r is listed with the cells that are told so far, and the bits of these are set
pub record ListsTo {C R : ℕ} (told : ℕ → Type 0) (r : ℕ) (w v : FoldedWatchers C R) (reach : ℕ) : Type 0 where
  pub more : ListsMore told r w v
  pub same : v.reach ≡ w.reach
  pub bits : (c : ℕ) → told c → bit_at reach (c % 64) ≡ 1

-- told' holds of cell x and of those of which told does, and of no more
pub record TellsMore (told told' : ℕ → Type 0) (x : ℕ) : Type 0 where
  pub one : (c : ℕ) → told' c → told c ⊎ (c ≡ x)
  pub kept : (c : ℕ) → told c → told' c
  pub here : told' x

module _ {C R : ℕ} (told : ℕ → Type 0) (r reach : ℕ) (w v : FoldedWatchers C R) (none : (c : ℕ) → told c → ⊥) where
  pub lists_none : ListsTo told r w w reach
  lists_none = record {
    more = record {
      words = refl;
      idempotent = refl;
      rule = λ c t. absurd (none c t);
      kept = λ c q was. was;
      cell_only = λ c k few e. inl e;
      rule_only = λ q p few e. inl e;
    };
    same = refl;
    bits = λ c t. absurd (none c t);
  }

module _ {C R : ℕ} (told told' : ℕ → Type 0) (r reach : ℕ) (w v : FoldedWatchers C R) (h : ListsTo told r w v reach) where
  -- the same cells, told otherwise
  pub lists_same : ((c : ℕ) → told' c → told c) → ((c : ℕ) → told c → told' c) → ListsTo told' r w v reach
  lists_same to from = record {
    more = record {
      words = h.more.words;
      idempotent = h.more.idempotent;
      rule = λ c t. h.more.rule c (to c t);
      kept = h.more.kept;
      cell_only = λ c k few e. elim (h.more.cell_only c k few e) [ inl was ↦ inl was | inr new ↦ inr (from c new.0, new.1) ];
      rule_only = λ q p few e. elim (h.more.rule_only q p few e) [
        | inl was ↦ inl was
        | inr new ↦ let (same, (c, t, is)) = new in inr (same, (c, from c t, is))
      ];
    };
    same = h.same;
    bits = λ c t. h.bits c (to c t);
  }

  module _ (x reach' : ℕ) (v' : FoldedWatchers C R) (tells : TellsMore told told' x) (at : ListedAt r x v v') (bit : WithBit reach (x % 64) reach') where
    bits_now : (c : ℕ) → told' c → bit_at reach' (c % 64) ≡ 1
    bits_now c t = elim (tells.one c t) [
      | inl before ↦ elim (cases_eq (c % 64) (x % 64)) [
        | inl meets ↦ ap (bit_at reach') meets ∙ bit.there
        | inr other ↦ bit.others (c % 64) (omega arith) other ∙ h.bits c before
      ]
      | inr same ↦ ap (λ k. bit_at reach' (k % 64)) same ∙ bit.there
    ]

    pub lists_more : ListsTo told' r w v' reach'
    lists_more = record {
      more = record {
        words = at.0.words ∙ h.more.words;
        idempotent = at.0.idempotent ∙ h.more.idempotent;
        rule = λ c t. elim (tells.one c t) [ inl before ↦ at.0.kept c r (h.more.rule c before) | inr same ↦ at.0.rule c same ];
        kept = λ c q was. at.0.kept c q (h.more.kept c q was);
        cell_only = λ c k few e. elim (at.0.cell_only c k few e) [
          | inl was ↦ elim (h.more.cell_only c k few was) [ inl first ↦ inl first | inr new ↦ inr (tells.kept c new.0, new.1) ]
          | inr new ↦ inr (subst told' (sym new.0) tells.here, new.1)
        ];
        rule_only = λ q p few e. elim (at.0.rule_only q p few e) [
          | inl was ↦ elim (h.more.rule_only q p few was) [
            | inl first ↦ inl first
            | inr new ↦ let (same, (c, t, is)) = new in inr (same, (c, tells.kept c t, is))
          ]
          | inr new ↦ let (same, (c, e, is)) = new in inr (same, (x, tells.here, ap (λ k. k % 64) (sym e) ∙ is))
        ];
      };
      same = at.1 ∙ h.same;
      bits = bits_now;
    }

-- the reach is noted
pub lists_noted : {C R : ℕ} → (told : ℕ → Type 0) (r reach : ℕ) (w v : FoldedWatchers C R) → r < length v.reach → ListsTo told r w v reach
    → ListedWith told r w (record { by_cell = v.by_cell; by_word = v.by_word; words = v.words; reach = set v.reach r reach; idempotent = v.idempotent })
lists_noted told r reach w v fit h = record {
  more = record {
    words = h.more.words;
    idempotent = h.more.idempotent;
    rule = h.more.rule;
    kept = h.more.kept;
    cell_only = h.more.cell_only;
    rule_only = h.more.rule_only;
  };
  reach = λ c t. ap (λ x. bit_at x (c % 64)) (get_or-set_same v.reach r reach 0 fit) ∙ h.bits c t;
  other_reach = λ q apart. get_or-set_other v.reach r q reach 0 apart ∙ ap (λ l. get_or l q 0) h.same;
}

-- the first i of the cells that are named
abbrev pub Named : List ℕ → ℕ → ℕ → Type 0
Named cs i c = names (take i cs) c ≡ true

or_true : (b : Bool) → true ≡ (b || true)
or_true true = refl
or_true false = refl

or_false : (b : Bool) → b ≡ (b || false)
or_false true = refl
or_false false = refl

module _ (cs : List ℕ) (i x : ℕ) (l : i < length cs) (e : x ≡ get_or cs i 0) where
  pub one_more_named : TellsMore (Named cs i) (Named cs (i + 1)) x
  one_more_named = record {
    one = λ c t. elim (cases_eq c x) [
      | inl same ↦ inr same
      | inr apart ↦ inl (or_false (names (take i cs) c) ∙ ap (λ b. names (take i cs) c || b) (sym (ne_eqb (get_or cs i 0) c (λ g. apart (sym g ∙ sym e))))
          ∙ sym (names_next cs i c l) ∙ t)
    ];
    kept = λ c t. names_next cs i c l ∙ ap (λ b. b || eqb (get_or cs i 0) c) t;
    here = names_next cs i x l ∙ ap (λ b. names (take i cs) x || b) (eq-eqb (get_or cs i 0) x (sym e)) ∙ sym (or_true (names (take i cs) x));
  }

-- of the cells below i, those of n that the rule touches
abbrev pub TouchedBelow : Meaning → ℕ → ℕ → ℕ → ℕ → Type 0
TouchedBelow m n r i c = (c < i) × ((m.rule r).touches n c ≡ true)

pub one_more_touched : (m : Meaning) (n r i : ℕ) → (m.rule r).touches n i ≡ true → TellsMore (TouchedBelow m n r i) (TouchedBelow m n r (i + 1)) i
one_more_touched m n r i touched = record {
  one = λ c t. elim (cases_eq c i) [ inl same ↦ inr same | inr apart ↦ inl (omega (arith, t.0, apart), t.1) ];
  kept = λ c t. (omega (arith, t.0), t.1);
  here = (omega arith, touched);
}

-- a cell that is named is one of the board
named_below : (n k : ℕ) (room : List ℕ) → k ≤ length room → ((i : ℕ) → i < k → get_or room i 0 < n) → (c : ℕ) → names (take k room) c ≡ true → c < n
named_below n zero room fit few c t = absurd (true≢false (sym t))
named_below n (suc k) room fit few c t =
    elim (cases_Bool (names (take k room) c)) [
      | inl before ↦ named_below n k room (omega arith) (λ i l. few i (omega arith)) c before
      | inr not ↦
          let one : suc k ≡ k + 1 = omega arith in
          let e = eqb-true (get_or room k 0) c (ap (λ b. b || eqb (get_or room k 0) c) (sym not) ∙ sym (names_next room k c (omega arith))
          ∙ ap (λ j. names (take j room) c) (sym one) ∙ t) in
          omega (arith, few k (omega arith), e)
    ]

-- what is told of the cells that are named
pub listed_named : {C R : ℕ} → (m : Meaning) (n r k : ℕ) (room : List ℕ) (w w' : FoldedWatchers C R) → Lists (m.rule r) n room (Some k)
    → ListedWith (λ c. names (take k room) c ≡ true) r w w' → FoldedListed m n r w w'
listed_named m n r k room w w' at with =
    let to : (c : ℕ) → (c < n) × ((m.rule r).touches n c ≡ true) → names (take k room) c ≡ true = λ c t. sym (at.2 c t.0) ∙ t.1 in
    let from : (c : ℕ) → names (take k room) c ≡ true → (c < n) × ((m.rule r).touches n c ≡ true) = λ c t.
    let l = named_below n k room at.0 at.1 c t in (l, at.2 c l ∙ t) in record {
      more = record {
        words = with.more.words;
        idempotent = with.more.idempotent;
        rule = λ c t. with.more.rule c (to c t);
        kept = with.more.kept;
        cell_only = λ c j few e. elim (with.more.cell_only c j few e) [ inl was ↦ inl was | inr new ↦ inr (from c new.0, new.1) ];
        rule_only = λ q p few e. elim (with.more.rule_only q p few e) [
          | inl was ↦ inl was
          | inr new ↦ let (same, (c, t, is)) = new in inr (same, (c, from c t, is))
        ];
      };
      reach = λ c t. with.reach c (to c t);
      other_reach = with.other_reach;
    }

-- the table with the cells below i looked at, as a word that search takes whole
unfoldable pub TouchedTo : {C R : ℕ} → Meaning → ℕ → ℕ → ℕ → FoldedWatchers C R → FoldedWatchers C R → ℕ → Type 0
TouchedTo m n r i w v reach = ListsTo (TouchedBelow m n r i) r w v reach

pub touched_none : {C R : ℕ} → (m : Meaning) (n r reach : ℕ) (w : FoldedWatchers C R) → TouchedTo m n r 0 w w reach
unfolding TouchedTo
touched_none m n r reach w = lists_none _ r reach w w (λ c t. absurd (omega (arith, t.0)))

pub touched_more : {C R : ℕ} → (m : Meaning) (n r i reach reach' : ℕ) (w v v' : FoldedWatchers C R) → TouchedTo m n r i w v reach → (m.rule r).touches n i ≡ true
    → ListedAt r i v v' → WithBit reach (i % 64) reach' → TouchedTo m n r (i + 1) w v' reach'
unfolding TouchedTo
touched_more m n r i reach reach' w v v' h touched at bit =
    lists_more (TouchedBelow m n r i) (TouchedBelow m n r (i + 1)) r reach w v h i reach' v' (one_more_touched m n r i touched) at bit

pub touched_same : {C R : ℕ} → (m : Meaning) (n r i reach : ℕ) (w v : FoldedWatchers C R) → TouchedTo m n r i w v reach → (m.rule r).touches n i ≡ false
    → TouchedTo m n r (i + 1) w v reach
unfolding TouchedTo
touched_same m n r i reach w v h off =
    lists_same (TouchedBelow m n r i) (TouchedBelow m n r (i + 1)) r reach w v h
    (λ d t. elim (cases_eq d i) [
      | inl same ↦ absurd (true≢false (sym t.1 ∙ ap ((m.rule r).touches n) same ∙ off))
      | inr apart ↦ (omega (arith, t.0, apart), t.1)
    ]) (λ d t. (omega (arith, t.0), t.1))

pub touched_all : {C R : ℕ} → (m : Meaning) (n r reach : ℕ) (w v : FoldedWatchers C R) → r < length v.reach → TouchedTo m n r n w v reach
    → FoldedListed m n r w (record { by_cell = v.by_cell; by_word = v.by_word; words = v.words; reach = set v.reach r reach; idempotent = v.idempotent })
unfolding TouchedTo
touched_all m n r reach w v fit h = lists_noted (λ c. (c < n) × ((m.rule r).touches n c ≡ true)) r reach w v fit h

-- the same of the cells that are named
unfoldable pub NamedTo : {C R : ℕ} → List ℕ → ℕ → ℕ → FoldedWatchers C R → FoldedWatchers C R → ℕ → Type 0
NamedTo cs i r w v reach = ListsTo (Named cs i) r w v reach

pub named_none : {C R : ℕ} → (cs : List ℕ) (r reach : ℕ) (w : FoldedWatchers C R) → NamedTo cs 0 r w w reach
unfolding NamedTo
named_none cs r reach w = lists_none _ r reach w w (λ c t. absurd (true≢false (sym t)))

pub named_more : {C R : ℕ} → (cs : List ℕ) (i r reach reach' : ℕ) (w v v' : FoldedWatchers C R) → i < length cs → NamedTo cs i r w v reach
    → ListedAt r (get_or cs i 0) v v' → WithBit reach (get_or cs i 0 % 64) reach' → NamedTo cs (i + 1) r w v' reach'
unfolding NamedTo
named_more cs i r reach reach' w v v' l h at bit =
    lists_more (Named cs i) (Named cs (i + 1)) r reach w v h (get_or cs i 0) reach' v' (one_more_named cs i (get_or cs i 0) l refl) at bit

pub named_all : {C R : ℕ} → (cs : List ℕ) (i r reach : ℕ) (w v : FoldedWatchers C R) → length cs ≤ i → r < length v.reach → NamedTo cs i r w v reach
    → ListedWith (λ c. names cs c ≡ true) r w (record { by_cell = v.by_cell; by_word = v.by_word; words = v.words; reach = set v.reach r reach; idempotent = v.idempotent })
unfolding NamedTo
named_all cs i r reach w v all fit h =
    let is = take_all i cs all in
    lists_noted (λ c. names cs c ≡ true) r reach w v fit (lists_same (Named cs i) (λ c. names cs c ≡ true) r reach w v h
    (λ d t. subst (λ (xs : List ℕ). names xs d ≡ true) (sym is) t) (λ d t. subst (λ (xs : List ℕ). names xs d ≡ true) is t))

-- the table so far, as a word that search takes whole
unfoldable pub FoldedTo : {C R : ℕ} → Meaning → ℕ → ℕ → FoldedWatchers C R → Type 0
FoldedTo = FoldedWatchingBelow

pub one_more_folded : {C R : ℕ} → (m : Meaning) (n r : ℕ) (w w' : FoldedWatchers C R) → FoldedTo m n r w → FoldedListed m n r w w' → FoldedTo m n (r + 1) w'
unfolding FoldedTo
one_more_folded m n r w w' at l = record {
  room = omega (arith, at.room, l.more.words);
  few = omega (arith, at.few, l.more.words);
  cells = at.cells;
  rules = omega (arith, at.rules, l.more.words);
  room_cells = at.room_cells;
  room_rules = at.room_rules;
  listed = listed_more m n r w w' l at.listed;
  cell_only = cell_only_more m n r w w' l at.cell_only;
  rule_only = rule_only_more m n r w w' l at.rule_only;
  reach = reach_more m n r w w' l at.reach;
  known = known_still m n r w w' l at.known;
}

pub none_folded_yet : {C R : ℕ} → (m : Meaning) (n : ℕ) (w : FoldedWatchers C R) → FoldedWatchingBelow m n 0 w → FoldedTo m n 0 w
unfolding FoldedTo
none_folded_yet m n w at = at

pub all_folded : {C R : ℕ} → (m : Meaning) (n r : ℕ) (w : FoldedWatchers C R) → r ≡ m.size → FoldedTo m n r w → FoldedWatching m n w
unfolding FoldedTo
all_folded m n r w e at = subst (λ k. FoldedWatchingBelow m n k w) e at

-- the rules of the words below i that are listed with cell c are pending too
pub record StirredTo {C R : ℕ} (w : FoldedWatchers C R) (c i : ℕ) (p p' : RuleSet) : Type 0 where
  pub below : (q : ℕ) → q < 64 * i → has p' q ≡ (has p q || watched w c q)
  pub others : (q : ℕ) → 64 * i ≤ q → has p' q ≡ has p q

both_set : (a b : ℕ) → a < 2 → b < 2 → eqb (min a b) 1 ≡ (eqb a 1 && eqb b 1)
both_set zero zero l k = refl
both_set zero (suc zero) l k = refl
both_set zero (suc (suc b)) l k = absurd (omega arith)
both_set (suc zero) zero l k = refl
both_set (suc zero) (suc zero) l k = refl
both_set (suc zero) (suc (suc b)) l k = absurd (omega arith)
both_set (suc (suc a)) b l k = absurd (omega arith)

module _ {C R : ℕ} (w : FoldedWatchers C R) (c i : ℕ) (p p' p'' : RuleSet) (h : StirredTo w c i p p')
    (u : UnitedWord p' i (bit_and (get_or w.by_cell c 0) (get_or w.by_word (64 * i + c % 64) 0)) p'') where
  here : (q : ℕ) → q / 64 ≡ i → has p'' q ≡ (has p q || watched w c q)
  here q e =
      let a = get_or w.by_cell c 0 in
      let b = get_or w.by_word (64 * i + c % 64) 0 in
      u q ∙ ap (λ x. has p' q || x && eqb (bit_at (bit_and a b) (q % 64)) 1) (eq-eqb (q / 64) i e)
      ∙ ap (λ x. x || eqb (bit_at (bit_and a b) (q % 64)) 1) (h.others q (omega arith))
      ∙ ap (λ x. has p q || eqb x 1) (bit_at_and a b (q % 64))
      ∙ ap (λ x. has p q || x) (both_set (bit_at a (q % 64)) (bit_at b (q % 64)) (bit_at-lt _ _) (bit_at-lt _ _))
      ∙ ap (λ k. has p q || (eqb (bit_at a (q % 64)) 1 && eqb (bit_at (get_or w.by_word (64 * k + c % 64) 0) (q % 64)) 1)) (sym e)

  there : (q : ℕ) → q / 64 ≢ i → has p'' q ≡ has p' q
  there q n = u q ∙ ap (λ x. has p' q || x && eqb (bit_at (bit_and (get_or w.by_cell c 0) (get_or w.by_word (64 * i + c % 64) 0)) (q % 64)) 1) (ne_eqb (q / 64) i n)
      ∙ sym (or_false (has p' q))

  pub stirred_more : StirredTo w c (i + 1) p p''
  stirred_more = record {
    below = λ q l. elim (cases_eq (q / 64) i) [
      | inl e ↦ here q e
      | inr n ↦ there q n ∙ h.below q (omega (arith, n))
    ];
    others = λ q l. there q (λ e. absurd (omega (arith, e))) ∙ h.others q (omega arith);
  }

-- of up to 64 cells, or of up to 64 rules listed, just those that touch a cell are listed with it
module _ {C R : ℕ} (m : Meaning) (n r : ℕ) (w : FoldedWatchers C R) (at : FoldedWatchingBelow m n r w) (few : (n ≤ 64) ⊎ (r ≤ 64)) where
  touches_where_listed : (c q : ℕ) → c < n → watched w c q ≡ true → (q < r) × ((m.rule q).touches n c ≡ true)
  touches_where_listed c q l on =
      let (with_c, with_q) = and_parts (with_cell w c (q % 64)) (with_rule w q (c % 64)) on in
      let (below, (d, fits, same, touched)) = at.rule_only q (c % 64) (omega arith) with_q in
      elim few [
        | inl cells ↦ (below, ap ((m.rule q).touches n) (omega (arith, same)) ∙ touched)
        | inr rules ↦
            let (s, listed, alike, meets) = at.cell_only c (q % 64) (omega arith) with_c in
            (below, ap (λ i. (m.rule i).touches n c) (omega (arith, alike)) ∙ meets)
      ]

  pub folded_exact : (c q : ℕ) → c < n → watched w c q ≡ (ltb q r && (m.rule q).touches n c)
  folded_exact c q l = elim (cases_Bool (watched w c q)) [
    | inl listed ↦ let (below, touched) = touches_where_listed c q l listed in listed ∙ sym (and_from _ _ (lt-ltb q r below) touched)
    | inr off ↦ elim (cases_Bool (ltb q r && (m.rule q).touches n c)) [
      | inl both ↦
          let (below, touched) = and_parts (ltb q r) ((m.rule q).touches n c) both in
          absurd (true≢false (sym (at.listed c q l (ltb-true q r below) touched) ∙ off))
      | inr neither ↦ off ∙ sym neither
    ]
  ]
