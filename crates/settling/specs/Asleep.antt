-- Which rules are pending: one that is not is quiet on the rows.
use Rattle.std.specs.Prelude.{◌≡◌, ℕ, ◌+◌, ◌*◌, ◌%◌, ◌<◌, ◌≤◌, true, false, ◌≢◌, List, length, Option, Some, None, slice_index_or}
use Rattle.std.specs.Int.{bit_at}
use Rattle.bounds.specs.declared.row.Row.{Row}
use Rattle.bounds.specs.Boards.{cells, none_row}
use Rattle.bounds.specs.Laws.{Meaning}
use Rattle.rule_families.specs.declared.change.Change.{Change}
use Rattle.rule_families.specs.declared.change.Change.TheVariants.{Quiet, Narrowed, Void}
use Rattle.rule_sets.specs.declared.rule_set.RuleSet.{RuleSet}
use Rattle.rule_sets.specs.Members.{has, Removed}
use Rattle.settling.specs.declared.folded.FoldedWatchers.{FoldedWatchers}
use Rattle.settling.specs.Folded.{watched}

abbrev pub Asleep : Meaning → List Row → RuleSet → Type 0
Asleep m a p = (q : ℕ) → q < m.size → has p q ≡ false → (m.rule q).narrowed a ≡ cells a

-- every rule is quiet that is not listed with the one cell that changed, if one did
abbrev pub AsleepBut : {C R : ℕ} → Meaning → FoldedWatchers C R → Option ℕ → List Row → Type 0
AsleepBut m w None a = (q : ℕ) → q < m.size → (m.rule q).narrowed a ≡ cells a
AsleepBut m w (Some c) a = (c < length a) × ((q : ℕ) → q < m.size → watched w c q ≡ false → (m.rule q).narrowed a ≡ cells a)

-- rule q touches no cell of n below c that rule r touches
abbrev pub Apart : Meaning → ℕ → ℕ → ℕ → ℕ → Type 0
Apart m n c r q = (k : ℕ) → k < c → (m.rule r).touches n k ≡ true → (m.rule q).touches n k ≢ true

-- a rule that is not pending after was not before, and does not touch the cell
abbrev pub AskedAt : Meaning → ℕ → ℕ → RuleSet → RuleSet → Type 0
AskedAt m n c p p' = (q : ℕ) → q < m.size → has p' q ≡ false → (has p q ≡ false) × ((m.rule q).touches n c ≡ false)

-- and it touches none of the cells that rule r touches
abbrev pub Asked : Meaning → ℕ → ℕ → RuleSet → RuleSet → Type 0
Asked m n r p p' = (q : ℕ) → q < m.size → has p' q ≡ false → (has p q ≡ false) × Apart m n n r q

-- of the cells of which P holds, those that are listed with the rule have the same row
abbrev pub Unstirred : {C R : ℕ} → FoldedWatchers C R → (ℕ → Type 0) → List Row → List Row → ℕ → Type 0
Unstirred w P a b q = (c : ℕ) → c < length b → P c → watched w c q ≡ true → slice_index_or a c none_row ≡ slice_index_or b c none_row

-- a rule that is not pending after was not before, and of the cells of which P holds none changed that is listed with it
abbrev pub WokenAmong : {C R : ℕ} → FoldedWatchers C R → (ℕ → Type 0) → List Row → List Row → RuleSet → RuleSet → Type 0
WokenAmong w P a b p p' = (q : ℕ) → q < 64 * w.words → has p' q ≡ false → (has p q ≡ false) × Unstirred w P a b q

abbrev pub Woken : {C R : ℕ} → FoldedWatchers C R → List Row → List Row → RuleSet → RuleSet → Type 0
Woken w a b p p' = WokenAmong w (λ _. Unit {0}) a b p p'

-- the rows a took over those of b in the cells of which P holds
pub record Taken (P : ℕ → Type 0) (a b a' : List Row) : Type 0 where
  pub long : length a' ≡ length a
  pub taken : (c : ℕ) → c < length b → P c → slice_index_or a' c none_row ≡ slice_index_or b c none_row
  pub others : (c : ℕ) → (P c → ⊥) → slice_index_or a' c none_row ≡ slice_index_or a c none_row

-- the 64 cells from one on
abbrev pub Within64 : ℕ → ℕ → Type 0
Within64 first c = (first ≤ c) × (c < first + 64)

-- the cells whose bit, of those of a word, is not set have the same rows
abbrev pub SameOutside : ℕ → List Row → List Row → Type 0
SameOutside word a b = (c : ℕ) → c < length b → bit_at word (c % 64) ≡ 0 → slice_index_or a c none_row ≡ slice_index_or b c none_row

-- what a rule's answer makes of the pending rules
abbrev pub Marked : {C R : ℕ} → FoldedWatchers C R → ℕ → List Row → List Row → RuleSet → RuleSet → Change → Type 0
Marked w r a b p p' Quiet = Removed p r p'
Marked w r a b p p' Narrowed = Woken w a b p p'
Marked w r a b p p' Void = p' ≡ p
