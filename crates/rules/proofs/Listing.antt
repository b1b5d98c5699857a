-- The cells that a rule names, listed in room that is lent.
use Rattle.std.proofs.Common.{◌≡◌, ℕ, ◌+◌, ◌<◌, ◌≤◌, true, ◌&&◌, List, length, get_or, set, take, Some, sym, ap, ◌∙◌, subst, inl, inr, arith}
use Rattle.std.proofs.lemmas.Bool.{cases_eq}
use Rattle.std.proofs.lemmas.List.{ext_get_or, get_or-take, length-take-le, get_or-set_same, get_or-set_other}
use Rattle.bounds.specs.Scoped.{Scoped, fits, names, on_board}
use Rattle.bounds.proofs.Scopes.{fits_at}
use Rattle.rule_families.specs.Marks.{Lists}

-- the first i of the room are those of the list
abbrev pub ListedTo : List ℕ → ℕ → List ℕ → Type 0
ListedTo cs i room = (j : ℕ) → j < i → get_or room j 0 ≡ get_or cs j 0

pub listed_one : (cs room : List ℕ) (i x : ℕ) → i < length room → x ≡ get_or cs i 0 → ListedTo cs i room → ListedTo cs (i + 1) (set room i x)
listed_one cs room i x l e h j k = elim (cases_eq j i) [
  | inl same ↦ ap (λ n. get_or (set room i x) n 0) same ∙ get_or-set_same room i x 0 l ∙ e ∙ ap (λ n. get_or cs n 0) (sym same)
  | inr apart ↦ get_or-set_other room i j x 0 apart ∙ h j (omega (arith, apart))
]

pub listed_all : (cs room : List ℕ) → length cs ≤ length room → ListedTo cs (length cs) room → take (length cs) room ≡ cs
listed_all cs room long h = ext_get_or 0 (take (length cs) room) cs (length-take-le (length cs) room long)
    (λ j l. get_or-take (length cs) room j 0 (omega (arith, length-take-le (length cs) room long)) ∙ h j (omega (arith, length-take-le (length cs) room long)))

pub lists_named : (s : Scoped) (n k : ℕ) (room : List ℕ) → k ≡ length s.scope → length s.scope ≤ length room → fits s.scope n ≡ true
    → take (length s.scope) room ≡ s.scope → Lists (on_board s) n room (Some k)
lists_named s n k room e long whole is = (
  omega (arith, e),
  λ i l. subst (λ (x : ℕ). x < n) (ap (λ (xs : List ℕ). get_or xs i 0) (sym is) ∙ get_or-take (length s.scope) room i 0 (omega (arith, e)))
      (fits_at s.scope n whole i (omega (arith, e))),
  λ c l. ap (λ b. b && names s.scope c) whole ∙ ap (λ (xs : List ℕ). names xs c) (sym is) ∙ ap (λ (j : ℕ). names (take j room) c) (sym e),
)
