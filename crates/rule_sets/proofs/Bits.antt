-- A bit of the words, set, cleared, joined, and the lowest that is set.
use Rattle.std.proofs.Common.{◌≡◌, ℕ, ◌-◌, ◌+◌, ◌-◌, ◌*◌, ◌/◌, ◌%◌, ◌^◌, ◌<◌, ◌≤◌, ◌||◌, ◌&&◌, ltb, max, Bool, true, false, eqb, ◌≢◌, List, length, replicate, zero, suc, cond, position, Some, None, get_or, set, take, drop, bit_and, bit_or, w64, sym, refl, ap, ◌∙◌, inl, inr, arith}
use Rattle.std.proofs.Math.Bool.{or-false}
use Rattle.std.proofs.lemmas.Bool.{cases_eq, cases_lt, cases_Bool, eqb-true, eq-eqb, ne_eqb, ltb-true, ltb-false, not-false, true≢false}
use Rattle.std.proofs.lemmas.List.{get_or-set_same, get_or-set_other, get_or-take, get_or-drop, length-take, length-drop}
use Rattle.std.proofs.lemmas.List.Quantifiers.{position-Some}
use Rattle.std.proofs.lemmas.Option.{none-some}
use Rattle.std.specs.List.{position_or_len}
use Rattle.std.proofs.lemmas.List.Sums.{sum_by-set, fails_before_first}
use Rattle.std.proofs.lemmas.Nat.{and_le_l}
use Rattle.std.proofs.lemmas.Nat.Bits.{bit_at_set_same, bit_at_set_other, bit_at_clear_same, bit_at_clear_other, bit_at-lt, bit_at_or, bit_at-zero, bit_at-trailing_zeros}
use Rattle.std.specs.Int.{bit_at, bit_not, trailing_zeros}
use Rattle.rule_sets.specs.declared.rule_set.RuleSet.{RuleSet}
use Rattle.rule_sets.specs.Members.{has, some_rule, WithBit, WithoutBit, Empty, Inserted, Removed, United, UnitedWord, NoneBelow, Lowest, LowestBit}

-- the bit of rule r in the words
abbrev bit : List ℕ → ℕ → ℕ
bit ws r = bit_at (get_or ws (r / 64) 0) (r % 64)

-- another word in place of one
module _ (ws : List ℕ) (i w : ℕ) (l : i < length ws) where
  here : (r : ℕ) → r / 64 ≡ i → bit (set ws i w) r ≡ bit_at w (r % 64)
  here r e = ap (λ k. bit_at (get_or (set ws i w) k 0) (r % 64)) e ∙ ap (λ x. bit_at x (r % 64)) (get_or-set_same ws i w 0 l)

  stays : (r : ℕ) → (r / 64 ≡ i → bit_at w (r % 64) ≡ bit_at (get_or ws i 0) (r % 64)) → bit (set ws i w) r ≡ bit ws r
  stays r h = elim (cases_eq (r / 64) i) [
    | inl e ↦ here r e ∙ h e ∙ ap (λ k. bit_at (get_or ws k 0) (r % 64)) (sym e)
    | inr n ↦ ap (λ x. bit_at x (r % 64)) (get_or-set_other ws i (r / 64) w 0 n)
  ]

not_both : (b : ℕ) → b ≡ 0 → b ≡ 1 → ⊥
not_both b zero_ one = omega arith

pub with_bit : (n k : ℕ) → k < 64 → WithBit n k (bit_or n (1 * 2 ^ k % 18446744073709551616))
with_bit n k l = record { there = bit_at_set_same w64 n k l; others = λ i _ apart. bit_at_set_other w64 n k l i apart }

pub without_bit : (n k : ℕ) → k < 64 → WithoutBit n k (bit_and n (18446744073709551615 - 1 * 2 ^ k % 18446744073709551616))
without_bit n k l =
    let m = bit_and n (bit_not w64 (1 * 2 ^ k % 18446744073709551616)) in
    let gone = bit_at_clear_same w64 n k l in record {
      gone = gone;
      others = λ i below apart. bit_at_clear_other w64 n k l i below apart;
      lighter = λ h.
          let less : m ≢ n = λ e. not_both (bit_at m k) gone (ap (λ x. bit_at x k) e ∙ h) in
          omega (arith, and_le_l n (bit_not w64 (1 * 2 ^ k % 18446744073709551616)), less);
    }

module _ (s : RuleSet) (r w : ℕ) (l : r / 64 < length s.words) where
  apart : (q : ℕ) → q ≢ r → q / 64 ≡ r / 64 → q % 64 ≢ r % 64
  apart q n e f = n (omega arith)

  pub inserted : WithBit (get_or s.words (r / 64) 0) (r % 64) w → Inserted s r (record { words = set s.words (r / 64) w })
  inserted h = record {
    there = ap (λ x. eqb x 1) (here s.words (r / 64) w l r refl ∙ h.there);
    others = λ q n. ap (λ x. eqb x 1) (stays s.words (r / 64) w l q (λ e. h.others (q % 64) (omega arith) (apart q n e)));
  }

  pub removed : WithoutBit (get_or s.words (r / 64) 0) (r % 64) w → Removed s r (record { words = set s.words (r / 64) w })
  removed h = record {
    gone = ap (λ x. eqb x 1) (here s.words (r / 64) w l r refl ∙ h.gone);
    others = λ q n. ap (λ x. eqb x 1) (stays s.words (r / 64) w l q (λ e. h.others (q % 64) (omega arith) (apart q n e)));
    lighter = λ had. omega (arith, sum_by-set (λ (x : ℕ). x) s.words (r / 64) w 0 l, h.lighter (eqb-true _ 1 had));
  }

zeros : (n i : ℕ) → get_or {A = ℕ} (replicate n 0) i 0 ≡ 0
zeros zero i = refl
zeros (suc n) zero = refl
zeros (suc n) (suc i) = zeros n i

pub empty : Empty (record { words = replicate 64 0 })
empty r = ap (λ x. eqb x 1) (ap (λ x. bit_at x (r % 64)) (zeros 64 (r / 64)) ∙ bit_at-zero (r % 64))

-- the words below n joined with the other's
pub record Joined (s o : RuleSet) (n : ℕ) (t : RuleSet) : Type 0 where
  pub joined : (i : ℕ) → i < n → get_or t.words i 0 ≡ bit_or (get_or s.words i 0) (get_or o.words i 0)
  pub others : (i : ℕ) → n ≤ i → get_or t.words i 0 ≡ get_or s.words i 0

either : (a b : ℕ) → a < 2 → b < 2 → eqb (max a b) 1 ≡ (eqb a 1 || eqb b 1)
either zero zero l k = refl
either zero (suc zero) l k = refl
either zero (suc (suc b)) l k = absurd (omega arith)
either (suc zero) zero l k = refl
either (suc zero) (suc zero) l k = refl
either (suc zero) (suc (suc b)) l k = absurd (omega arith)
either (suc (suc a)) b l k = absurd (omega arith)

pub united : (s o : RuleSet) (n : ℕ) (t : RuleSet) → Joined s o n t → United s o n t
united s o n t h r = elim (cases_Bool (ltb r (64 * n))) [
  | inl e ↦ ap (λ x. eqb (bit_at x (r % 64)) 1) (h.joined (r / 64) (omega (arith, ltb-true r (64 * n) e)))
      ∙ ap (λ x. eqb x 1) (bit_at_or (get_or s.words (r / 64) 0) (get_or o.words (r / 64) 0) (r % 64))
      ∙ either (bit s.words r) (bit o.words r) (bit_at-lt _ _) (bit_at-lt _ _)
      ∙ ap (λ x. has s r || x && has o r) (sym e)
  | inr e ↦ ap (λ x. eqb (bit_at x (r % 64)) 1) (h.others (r / 64) (omega (arith, ltb-false r (64 * n) e)))
      ∙ sym (or-false (has s r)) ∙ ap (λ x. has s r || x && has o r) (sym e)
]

pub united_word : (s : RuleSet) (w bits : ℕ) → w < length s.words → UnitedWord s w bits (record { words = set s.words w (bit_or (get_or s.words w 0) bits) })
united_word s w bits l r = elim (cases_eq (r / 64) w) [
  | inl e ↦ ap (λ x. eqb x 1) (here s.words w (bit_or (get_or s.words w 0) bits) l r e ∙ bit_at_or (get_or s.words w 0) bits (r % 64))
      ∙ either (bit_at (get_or s.words w 0) (r % 64)) (bit_at bits (r % 64)) (bit_at-lt _ _) (bit_at-lt _ _)
      ∙ ap (λ k. eqb (bit_at (get_or s.words k 0) (r % 64)) 1 || eqb (bit_at bits (r % 64)) 1) (sym e)
      ∙ ap (λ x. has s r || x && eqb (bit_at bits (r % 64)) 1) (sym (eq-eqb (r / 64) w e))
  | inr n ↦ ap (λ x. eqb (bit_at x (r % 64)) 1) (get_or-set_other s.words w (r / 64) (bit_or (get_or s.words w 0) bits) 0 n)
      ∙ sym (or-false (has s r)) ∙ ap (λ x. has s r || x && eqb (bit_at bits (r % 64)) 1) (sym (ne_eqb (r / 64) w n))
]

no_bit : (w r : ℕ) → some_rule w ≡ false → eqb (bit_at w r) 1 ≡ false
no_bit w r e = ap (λ x. eqb x 1) (ap (λ x. bit_at x r) (eqb-true w 0 (not-false (eqb w 0) e)) ∙ bit_at-zero r)

not_some : (b : Bool) (n : ℕ) → cond b (Some n) None ≡ None → b ≡ false
not_some true n e = absurd (none-some n (sym e))
not_some false n e = refl

some_positive : (w : ℕ) → some_rule w ≡ true → 0 < w
some_positive zero e = absurd (true≢false (sym e))
some_positive (suc w) e = omega arith

pub lowest_none : (s : RuleSet) (n : ℕ) → n ≤ length s.words → position some_rule (take n s.words) ≡ None → Lowest s n None
lowest_none s n l e r below =
    let ws = take n s.words in
    let k = position_or_len some_rule ws in
    let past = ltb-false k (length ws) (not_some (ltb k (length ws)) k e) in
    ap (λ x. eqb (bit_at x (r % 64)) 1) (sym (get_or-take n s.words (r / 64) 0 (omega arith)))
    ∙ no_bit (get_or ws (r / 64) 0) (r % 64) (fails_before_first some_rule ws (r / 64) 0 (omega (arith, length-take n s.words)))

pub lowest_some : (s : RuleSet) (n w : ℕ) → get_or s.words w 0 < 2 ^ 64 → n ≤ length s.words → position some_rule (take n s.words) ≡ Some w
    → Lowest s n (Some (64 * w + trailing_zeros w64 (get_or s.words w 0)))
lowest_some s n w fits l e =
    let at = position-Some some_rule (take n s.words) w 0 e in
    let here : get_or (take n s.words) w 0 ≡ get_or s.words w 0 = get_or-take n s.words w 0 (omega (arith, length-take n s.words, at.0)) in
    let low = bit_at-trailing_zeros w64 (get_or s.words w 0) (some_positive (get_or s.words w 0) (ap some_rule (sym here) ∙ at.1)) fits in
    let t = trailing_zeros w64 (get_or s.words w 0) in
    let q : (64 * w + t) / 64 ≡ w = omega (arith, low.0) in
    let m : (64 * w + t) % 64 ≡ t = omega (arith, low.0) in (
      ap (λ x. eqb x 1) ((λ i. bit_at (get_or s.words (q i) 0) (m i)) ∙ low.1),
      omega (arith, length-take n s.words, at.0, low.0),
      λ r below. elim (cases_eq (r / 64) w) [
        | inl e ↦ ap (λ x. eqb x 1) (ap (λ k. bit_at (get_or s.words k 0) (r % 64)) e ∙ low.2 (r % 64) (omega arith))
        | inr k ↦ ap (λ x. eqb (bit_at x (r % 64)) 1) (sym (get_or-take n s.words (r / 64) 0 (omega (arith, length-take n s.words, at.0))))
            ∙ no_bit (get_or (take n s.words) (r / 64) 0) (r % 64) (at.2 (r / 64) (omega (arith, low.0)))
      ],
    )

-- past words that have no rule
module _ (s : RuleSet) (p n : ℕ) (l : n ≤ length s.words) (m : p ≤ n) (none : NoneBelow s p) where
  abbrev rest : List ℕ
  rest = take (n - p) (drop p s.words)

  rest_length : length rest ≡ n - p
  rest_length = omega (arith, length-drop p s.words, length-take (n - p) (drop p s.words))

  word_of : (i : ℕ) → p ≤ i → i < n → get_or rest (i - p) 0 ≡ get_or s.words i 0
  word_of i past below =
      get_or-take (n - p) (drop p s.words) (i - p) 0 (omega (arith, rest_length)) ∙ get_or-drop p s.words (i - p) 0 ∙ ap (λ k. get_or s.words k 0) (omega arith)

  pub past_fits : (w : ℕ) → position some_rule rest ≡ Some w → p + w < n
  past_fits w e = omega (arith, (position-Some some_rule rest w 0 e).0, rest_length)

  pub past_none : position some_rule rest ≡ None → Lowest s n None
  past_none e r below = elim (cases_lt (r / 64) p) [
    | inl before ↦ none r (omega arith)
    | inr past ↦
        let k = position_or_len some_rule rest in
        let full = ltb-false k (length rest) (not_some (ltb k (length rest)) k e) in
        ap (λ x. eqb (bit_at x (r % 64)) 1) (sym (word_of (r / 64) past (omega arith)))
        ∙ no_bit (get_or rest (r / 64 - p) 0) (r % 64) (fails_before_first some_rule rest (r / 64 - p) 0 (omega (arith, rest_length)))
  ]

  pub past_some : (w : ℕ) → get_or s.words (p + w) 0 < 2 ^ 64 → position some_rule rest ≡ Some w
      → Lowest s n (Some (64 * (p + w) + trailing_zeros w64 (get_or s.words (p + w) 0)))
  past_some w fits e =
      let at = position-Some some_rule rest w 0 e in
      let here : get_or rest w 0 ≡ get_or s.words (p + w) 0 = ap (λ k. get_or rest k 0) (omega arith) ∙ word_of (p + w) (omega arith) (omega (arith, rest_length, at.0)) in
      let low = bit_at-trailing_zeros w64 (get_or s.words (p + w) 0) (some_positive (get_or s.words (p + w) 0) (ap some_rule (sym here) ∙ at.1)) fits in
      let t = trailing_zeros w64 (get_or s.words (p + w) 0) in
      let q : (64 * (p + w) + t) / 64 ≡ p + w = omega (arith, low.0) in
      let b : (64 * (p + w) + t) % 64 ≡ t = omega (arith, low.0) in (
        ap (λ x. eqb x 1) ((λ i. bit_at (get_or s.words (q i) 0) (b i)) ∙ low.1),
        omega (arith, rest_length, at.0, low.0),
        λ r below. elim (cases_lt (r / 64) p) [
          | inl before ↦ none r (omega arith)
          | inr past ↦ elim (cases_eq (r / 64) (p + w)) [
            | inl e ↦ ap (λ x. eqb x 1) (ap (λ k. bit_at (get_or s.words k 0) (r % 64)) e ∙ low.2 (r % 64) (omega arith))
            | inr k ↦ ap (λ x. eqb (bit_at x (r % 64)) 1) (sym (word_of (r / 64) past (omega (arith, rest_length, at.0))))
                ∙ no_bit (get_or rest (r / 64 - p) 0) (r % 64) (at.2 (r / 64 - p) (omega (arith, low.0, past, k)))
          ]
        ],
      )

-- what was passed stays so when the lowest is taken away
pub passed_still : (s t : RuleSet) (n r : ℕ) → Lowest s n (Some r) → Removed s r t → NoneBelow t (r / 64)
passed_still s t n r low gone q l = gone.others q (omega arith) ∙ low.2 q (omega arith)

pub none_passed : (s : RuleSet) → NoneBelow s 0
none_passed s r l = absurd (omega arith)

pub lowest_of : (n : ℕ) → 0 < n → n < 2 ^ 64 → LowestBit n (Some (trailing_zeros w64 n))
lowest_of n some fits = let low = bit_at-trailing_zeros w64 n some fits in (low.1, low.0)
