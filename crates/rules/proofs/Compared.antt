-- What `==` on rows tells.
use Rattle.std.proofs.Common.{◌≡◌, ℕ, Bool, true, false, ◌&&◌, not, eqb, ◌≢◌, ◌⊎◌, List, length, Decides, sym, refl, ap, ◌∙◌, inl, inr}
use Rattle.std.specs.Cmp.Lexicographic.{pointwise, pointwise_decides}
use Rattle.std.proofs.lemmas.Bool.{true≢false, false≢true, cases_Bool}
use Rattle.std.proofs.lemmas.Bool.Decides.{Decides-at, Decides-like, Decides-and, Decides-eqb}
use Rattle.bounds.specs.declared.row.Row.{Row}
use Rattle.bounds.specs.contracts.row.RowPartialEq.TheImpl.{eq-value}
use Rattle.bounds.specs.Boards.{none_row}
use Rattle.bounds.specs.Scoped.{gather, scatter}
use Rattle.bounds.proofs.Places.{same_row}
use Rattle.bounds.proofs.Scopes.{scatter_same}

module _ (r s : Row) where
  -- as the derived `eq` computes it
  abbrev pub same_row_test : Bool
  same_row_test = eqb r.low s.low && eqb r.high s.high

  abbrev pub Compared : Bool → Type 0
  Compared x = x ≡ same_row_test

  pub compared_decides : (x : Bool) → Compared x → Decides x (r ≡ s)
  compared_decides x h = Decides-like x (λ p. same_row r s p.0 p.1) (λ e. (ap (λ z. z.low) e, ap (λ z. z.high) e))
      (Decides-at x _ h (Decides-and _ _ (Decides-eqb r.low s.low) (Decides-eqb r.high s.high)))

  pub rows_differ : (x : Bool) → Compared x → true ≡ not x → r ≡ s → ⊥
  rows_differ true h e k = true≢false e
  rows_differ false h e k = false≢true ((compared_decides false h).1 k)

  pub rows_agree : (x : Bool) → Compared x → false ≡ not x → r ≡ s
  rows_agree true h e = (compared_decides true h).0 refl
  rows_agree false h e = absurd (false≢true e)

-- and on lists of them
pub rows_decided : (xs ys : List Row) (r : Bool) → (r ≡ pointwise same_row_test xs ys) → Decides r (xs ≡ ys)
rows_decided xs ys r e = Decides-at r _ e (pointwise_decides (λ a b. compared_decides a b _ refl) xs ys)

-- and as `grind` takes it
pub rows_tested : (xs ys : List Row) → ((pointwise same_row_test xs ys ≡ true) × (xs ≡ ys)) ⊎ ((pointwise same_row_test xs ys ≡ false) × (xs ≢ ys))
rows_tested xs ys = let d = rows_decided xs ys _ refl in elim (cases_Bool (pointwise same_row_test xs ys)) [
  | inl e ↦ inl (e, d.0 e)
  | inr e ↦ inr (e, λ k. true≢false (sym (d.1 k) ∙ e))
]

-- as `==` on slices of rows spells it
pub slices_tested : (xs ys : List Row) → ((pointwise (eq-value).it xs ys ≡ true) × (xs ≡ ys)) ⊎ ((pointwise (eq-value).it xs ys ≡ false) × (xs ≢ ys))
slices_tested = rows_tested

-- and as `!=` on rows computes
pub row_tested : (a b : Row) → ((not (eqb a.low b.low && eqb a.high b.high) ≡ true) × (a ≢ b)) ⊎ ((not (eqb a.low b.low && eqb a.high b.high) ≡ false) × (a ≡ b))
row_tested a b = elim (cases_Bool (same_row_test a b)) [
  | inl e ↦ let n = ap not e in inr (n, rows_agree a b _ refl (sym n))
  | inr e ↦ let n = ap not e in inl (n, rows_differ a b _ refl (sym n))
]

-- rows written to the named cells that read there as before
pub scatter_back : (cs : List ℕ) (g xs : List Row) → length g ≡ length cs → gather none_row cs xs ≡ gather none_row cs (scatter cs g xs) → scatter cs g xs ≡ xs
scatter_back cs g xs e h = sym (scatter_same none_row cs g xs e h)

pub ruleset writing_back = (slices_tested, scatter_back)
