-- The rows and the marks of named cells, as far as a walk over the names has come.
use Rattle.std.proofs.Common.{◌≡◌, ℕ, ◌+◌, ◌<◌, ◌≤◌, ◌||◌, Bool, true, false, eqb, ◌≢◌, List, length, get_or, take, set, sym, refl, ap, ◌∙◌, inl, inr, arith}
use Rattle.std.proofs.lemmas.Bool.{cases_Bool, cases_eq, eq-eqb, ne_eqb}
use Rattle.std.proofs.lemmas.List.{get_or-set_same, get_or-set_other}
use Rattle.bounds.specs.declared.row.Row.{Row}
use Rattle.bounds.specs.Boards.{none_row}
use Rattle.bounds.specs.Scoped.{fits, names, gather}
use Rattle.bounds.proofs.Named.{names_next}
use Rattle.bounds.proofs.Scopes.{fits_at, gather_at}
use Rattle.rule_families.specs.Marks.{MarksNamed}

pub cell_missing : (cs : List ℕ) (n i : ℕ) → i < length cs → n ≤ get_or cs i 0 → fits cs n ≡ false
cell_missing cs n i l m = elim (cases_Bool (fits cs n)) [
  | inl f ↦ absurd (omega (arith, fits_at cs n f i l))
  | inr f ↦ f
]

-- one more name
or_true : (x y z : Bool) → z ≡ true → true ≡ (x || (y || z))
or_true true y z e = refl
or_true false true z e = refl
or_true false false z e = sym e

or_false : (x y z : Bool) → z ≡ false → (x || y) ≡ (x || (y || z))
or_false true y z e = refl
or_false false true z e = refl
or_false false false z e = sym e

pub marks_more : (cs : List ℕ) (i : ℕ) (p q : List Bool) → i < length cs → length q ≡ length p → get_or cs i 0 < length p → MarksNamed (take i cs) p q
    → MarksNamed (take (i + 1) cs) p (set q (get_or cs i 0) true)
marks_more cs i p q l long fit h c k = elim (cases_eq (get_or cs i 0) c) [
  | inl e ↦ ap (λ (x : List Bool). get_or x c false) (ap (λ j. set q j true) e) ∙ get_or-set_same q c true false (omega arith)
      ∙ or_true (get_or p c false) (names (take i cs) c) (eqb (get_or cs i 0) c) (eq-eqb (get_or cs i 0) c e) ∙ ap (λ b. get_or p c false || b) (sym (names_next cs i c l))
  | inr n ↦ get_or-set_other q (get_or cs i 0) c true false (λ e. n (sym e)) ∙ h c k
      ∙ or_false (get_or p c false) (names (take i cs) c) (eqb (get_or cs i 0) c) (ne_eqb (get_or cs i 0) c n) ∙ ap (λ b. get_or p c false || b) (sym (names_next cs i c l))
]

-- rows that differ at one of the named cells
pub not_gathered : (cs : List ℕ) (own rows : List Row) (i : ℕ) → i < length cs → get_or rows (get_or cs i 0) none_row ≢ get_or own i none_row → own ≢ gather none_row cs rows
not_gathered cs own rows i l n e = n (sym (ap (λ (x : List Row). get_or x i none_row) e ∙ gather_at none_row cs rows i l))
