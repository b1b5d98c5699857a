-- What is known of new rows g and of the rows a, place by place.
use Rattle.std.proofs.Common.{◌≡◌, ℕ, ◌+◌, ◌<◌, ◌≤◌, false, ◌≢◌, List, length, get_or, set, sym, ap, ◌∙◌, inl, inr, arith, below_more}
use Rattle.std.proofs.lemmas.Bool.{cases_Bool}
use Rattle.std.proofs.lemmas.List.{get_or-set_same, get_or-set_other}
use Rattle.bounds.specs.declared.row.Row.{Row}
use Rattle.bounds.specs.Boards.{sound, none_row}
use Rattle.bounds.proofs.Places.{low_at, high_at, at_sound, sound_at, same_rows}
use Rattle.rule_families.specs.declared.change.Change.{Change}
use Rattle.rule_families.specs.declared.change.Change.TheVariants.{Quiet, Narrowed, Void}
use Rattle.totals.specs.Narrowing.{Outcome}

-- the first i places of g and a agree
abbrev Same : List Row → List Row → ℕ → Type 0
Same g a i = (k : ℕ) → k < i → get_or g k none_row ≡ get_or a k none_row

abbrev Told : List Row → List Row → ℕ → Change → Type 0
Told g a i Quiet = Same g a i
Told g a i Narrowed = Same g a i → ⊥
Told g a i Void = ⊥

-- none of the first i rows is empty, and what is known of their change
abbrev pub Far : List Row → List Row → ℕ → Change → Type 0
Far g a i change = ((k : ℕ) → k < i → low_at g k ≤ high_at g k) × Told g a i change

module _ (g a : List Row) (i : ℕ) where
  pub far_same : (c : Change) → Far g a i c → low_at g i ≤ high_at g i → get_or g i none_row ≡ get_or a i none_row → Far g a (i + 1) c
  far_same Quiet f s e = (below_more _ i f.0 s, below_more _ i f.1 e)
  far_same Narrowed f s e = (below_more _ i f.0 s, λ h. f.1 (λ k l. h k (omega arith)))
  far_same Void f s e = absurd f.1

  pub far_other : (c : Change) → Far g a i c → low_at g i ≤ high_at g i → get_or g i none_row ≢ get_or a i none_row → Far g a (i + 1) Narrowed
  far_other c f s d = (below_more _ i f.0 s, λ h. d (h i (omega arith)))

module _ (g a : List Row) (e : length g ≡ length a) where
  pub far_all : (i : ℕ) (c : Change) → length a ≤ i → Far g a i c → Outcome g a c
  far_all i Quiet h f = same_rows g a e (λ k l. f.1 k (omega arith))
  far_all i Narrowed h f = (at_sound g (λ k l. f.0 k (omega arith)), λ s. f.1 (λ k l. ap (λ x. get_or x k none_row) s))
  far_all i Void h f = absurd f.1

  pub far_void : (i : ℕ) → i < length a → high_at g i < low_at g i → sound g ≡ false
  far_void i l h = elim (cases_Bool (sound g)) [ inl s ↦ absurd (omega (arith, sound_at g s i (omega arith))) | inr s ↦ s ]

-- the first rows of new are those of g
pub stored_more : (g new : List Row) (i : ℕ) (r : Row) → i < length new → get_or g i none_row ≡ r
    → ((k : ℕ) → k < i → get_or new k none_row ≡ get_or g k none_row) → (k : ℕ) → k < i + 1 → get_or (set new i r) k none_row ≡ get_or g k none_row
stored_more g new i r l e h = below_more _ i (λ k o. let other : k ≢ i = omega arith in get_or-set_other new i k r none_row other ∙ h k o)
    (get_or-set_same new i r none_row l ∙ sym e)
