-- The rules of a set, and what a call makes of them.
use Rattle.std.specs.Prelude.{◌≡◌, ℕ, ◌/◌, ◌%◌, ◌*◌, ◌<◌, ◌==◌, ◌≢◌, ◌&&◌, ◌||◌, nat_lt, not, Bool, true, false, [], Option, Some, None, slice_index_or, sum_by}
use Rattle.std.specs.Int.{bit_at}
use Rattle.rule_sets.specs.declared.rule_set.RuleSet.{RuleSet}

abbrev pub no_rules : RuleSet
no_rules = record { words = [] }

abbrev pub has : RuleSet → ℕ → Bool
has s r = bit_at (slice_index_or s.words (r / 64) 0) (r % 64) == 1

-- whether the word has a rule
abbrev pub some_rule : ℕ → Bool
some_rule w = not (w == 0)

abbrev pub Empty : RuleSet → Type 0
Empty s = (r : ℕ) → has s r ≡ false

abbrev pub Below : ℕ → RuleSet → Type 0
Below n s = (r : ℕ) → has s r ≡ nat_lt r n

pub record Inserted (s : RuleSet) (r : ℕ) (t : RuleSet) : Type 0 where
  pub there : has t r ≡ true
  pub others : (q : ℕ) → q ≢ r → has t q ≡ has s q

-- the sum of the words, which falls with each rule that is taken away
abbrev pub weight : RuleSet → ℕ
weight s = sum_by (λ w. w) s.words

pub record Removed (s : RuleSet) (r : ℕ) (t : RuleSet) : Type 0 where
  pub gone : has t r ≡ false
  pub others : (q : ℕ) → q ≢ r → has t q ≡ has s q
  pub lighter : has s r ≡ true → weight t < weight s

-- the word with the bit, and without it
pub record WithBit (n k m : ℕ) : Type 0 where
  pub there : bit_at m k ≡ 1
  pub others : (i : ℕ) → i < 64 → i ≢ k → bit_at m i ≡ bit_at n i

pub record WithoutBit (n k m : ℕ) : Type 0 where
  pub gone : bit_at m k ≡ 0
  pub others : (i : ℕ) → i < 64 → i ≢ k → bit_at m i ≡ bit_at n i
  pub lighter : bit_at n k ≡ 1 → m < n

-- of the rules below so many words
abbrev pub United : RuleSet → RuleSet → ℕ → RuleSet → Type 0
United s o words t = (r : ℕ) → has t r ≡ (has s r || (nat_lt r (64 * words) && has o r))

-- of the rules of one word, those whose bits are set
abbrev pub UnitedWord : RuleSet → ℕ → ℕ → RuleSet → Type 0
UnitedWord s word bits t = (r : ℕ) → has t r ≡ (has s r || ((r / 64 == word) && (bit_at bits (r % 64) == 1)))

-- no rule below so many words
abbrev pub NoneBelow : RuleSet → ℕ → Type 0
NoneBelow s words = (r : ℕ) → r < 64 * words → has s r ≡ false

abbrev pub Lowest : RuleSet → ℕ → Option ℕ → Type 0
Lowest s words None = (r : ℕ) → r < 64 * words → has s r ≡ false
Lowest s words (Some r) = (has s r ≡ true) × (r < 64 * words) × ((q : ℕ) → q < r → has s q ≡ false)

abbrev pub LowestBit : ℕ → Option ℕ → Type 0
LowestBit n None = n ≡ 0
LowestBit n (Some k) = (bit_at n k ≡ 1) × (k < 64)
