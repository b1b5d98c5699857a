-- The rules by cell and the cells by rule, both by their numbers modulo 64.
use Rattle.std.specs.Prelude.{◌≡◌, ℕ, ◌+◌, ◌*◌, ◌/◌, ◌%◌, ◌<◌, ◌≤◌, ◌==◌, ◌&&◌, ◌||◌, Bool, true, false, ◌≢◌, ◌⊎◌, slice_index, slice_index_or, Option, Some, None}
use Rattle.std.specs.Int.{bit_at}
use Rattle.bounds.specs.Laws.{Meaning}
use Rattle.rule_sets.specs.declared.rule_set.RuleSet.{RuleSet}
use Rattle.rule_sets.specs.Members.{has}
use Rattle.settling.specs.declared.folded.FoldedWatchers.{FoldedWatchers}
use Rattle.settling.specs.Watching.{AllIdempotent}

-- whether a rule of number k modulo 64 is listed with cell c
abbrev pub with_cell : {C R : ℕ} → FoldedWatchers C R → ℕ → ℕ → Bool
with_cell w c k = bit_at (slice_index_or w.by_cell c 0) k == 1

-- whether a cell of number p modulo 64 is listed with rule q
abbrev pub with_rule : {C R : ℕ} → FoldedWatchers C R → ℕ → ℕ → Bool
with_rule w q p = bit_at (slice_index_or w.by_word (64 * (q / 64) + p) 0) (q % 64) == 1

-- whether rule q and cell c are listed with each other
abbrev pub watched : {C R : ℕ} → FoldedWatchers C R → ℕ → ℕ → Bool
watched w c q = with_cell w c (q % 64) && with_rule w q (c % 64)

-- those of the rules below r that touch a cell of n are listed with it
abbrev pub FoldedListedBelow : {C R : ℕ} → Meaning → ℕ → ℕ → FoldedWatchers C R → Type 0
FoldedListedBelow m n r w = (c q : ℕ) → c < n → q < r → (m.rule q).touches n c ≡ true → watched w c q ≡ true

-- only for a rule below r that touches the cell
abbrev pub CellOnly : {C R : ℕ} → Meaning → ℕ → ℕ → FoldedWatchers C R → Type 0
CellOnly m n r w = (c k : ℕ) → k < 64 → with_cell w c k ≡ true → (q : ℕ) × (q < r) × (q % 64 ≡ k) × ((m.rule q).touches n c ≡ true)

-- only for a cell of n that the rule touches, where it is below r
abbrev pub RuleOnly : {C R : ℕ} → Meaning → ℕ → ℕ → FoldedWatchers C R → Type 0
RuleOnly m n r w = (q p : ℕ) → p < 64 → with_rule w q p ≡ true → (q < r) × ((c : ℕ) × (c < n) × (c % 64 ≡ p) × ((m.rule q).touches n c ≡ true))

-- for rule q, each cell of n that it touches has its bit set: that of its number modulo 64
abbrev pub FoldedReaches : {C R : ℕ} → Meaning → ℕ → ℕ → FoldedWatchers C R → Type 0
FoldedReaches m n q w = (c : ℕ) → c < n → (m.rule q).touches n c ≡ true → bit_at (slice_index w.reach q) (c % 64) ≡ 1

-- what a table says of the cells of n, where the rules below r are listed
pub record FoldedWatchingBelow {C R : ℕ} (m : Meaning) (n r : ℕ) (w : FoldedWatchers C R) : Type 0 where
  pub room : m.size ≤ 64 * w.words
  pub few : w.words ≤ 64
  pub cells : n ≤ C
  pub rules : 64 * w.words ≤ R
  pub room_cells : C ≤ 1024
  pub room_rules : R ≤ 4096
  pub listed : FoldedListedBelow m n r w
  pub cell_only : CellOnly m n r w
  pub rule_only : RuleOnly m n r w
  pub reach : (q : ℕ) → q < r → FoldedReaches m n q w
  pub known : AllIdempotent m w.idempotent

abbrev pub FoldedWatching : {C R : ℕ} → Meaning → ℕ → FoldedWatchers C R → Type 0
FoldedWatching m n w = FoldedWatchingBelow m n m.size w

-- rule r is listed with the cells of which told holds, what was listed is, and nothing else
pub record ListsMore {C R : ℕ} (told : ℕ → Type 0) (r : ℕ) (w w' : FoldedWatchers C R) : Type 0 where
  pub words : w'.words ≡ w.words
  pub idempotent : w'.idempotent ≡ w.idempotent
  pub rule : (c : ℕ) → told c → watched w' c r ≡ true
  pub kept : (c q : ℕ) → watched w c q ≡ true → watched w' c q ≡ true
  pub cell_only : (c k : ℕ) → k < 64 → with_cell w' c k ≡ true → (with_cell w c k ≡ true) ⊎ (told c × (k ≡ r % 64))
  pub rule_only : (q p : ℕ) → p < 64 → with_rule w' q p ≡ true → (with_rule w q p ≡ true) ⊎ ((q ≡ r) × ((c : ℕ) × told c × (c % 64 ≡ p)))

-- with one cell, and the rule's reach is not noted yet
abbrev pub ListedAt : {C R : ℕ} → ℕ → ℕ → FoldedWatchers C R → FoldedWatchers C R → Type 0
ListedAt r x w w' = ListsMore (λ c. c ≡ x) r w w' × (w'.reach ≡ w.reach)

-- and its reach is noted
pub record ListedWith {C R : ℕ} (told : ℕ → Type 0) (r : ℕ) (w w' : FoldedWatchers C R) : Type 0 where
  pub more : ListsMore told r w w'
  pub reach : (c : ℕ) → told c → bit_at (slice_index w'.reach r) (c % 64) ≡ 1
  pub other_reach : (q : ℕ) → q ≢ r → slice_index w'.reach q ≡ slice_index w.reach q

-- with the cells of n that it touches
abbrev pub FoldedListed : {C R : ℕ} → Meaning → ℕ → ℕ → FoldedWatchers C R → FoldedWatchers C R → Type 0
FoldedListed m n r w w' = ListedWith (λ c. (c < n) × ((m.rule r).touches n c ≡ true)) r w w'

-- the rules that are listed with cell c are pending too
abbrev pub Stirred : {C R : ℕ} → FoldedWatchers C R → ℕ → RuleSet → RuleSet → Type 0
Stirred w c p p' = (q : ℕ) → q < 64 * w.words → has p' q ≡ (has p q || watched w c q)

-- the rule itself, if it is noted as idempotent
abbrev pub FoldedRests : {C R : ℕ} → FoldedWatchers C R → ℕ → Option ℕ → Type 0
FoldedRests w r None = has w.idempotent r ≡ false
FoldedRests w r (Some q) = (q ≡ r) × (has w.idempotent r ≡ true)
