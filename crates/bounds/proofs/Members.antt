-- What is in the lists that `exact` is made of.
use Rattle.std.proofs.Common.{◌≡◌, ℕ, zero, suc, ◌+◌, ◌-◌, ◌<◌, ◌≤◌, Bool, true, List, [], ◌∷◌, map, sym, refl, ap, ◌∙◌, subst, inl, inr, arith}
use mathlib.Core.List.Memᴰ
use mathlib.Core.List.{Memᴰ}
use Rattle.std.proofs.lemmas.Bool.{cases_eq, both_ways, cond_both}
use Rattle.bounds.specs.declared.row.Row.{Row}
use Rattle.bounds.specs.Boards.{Fills}
use Rattle.bounds.specs.Exact.{counts, each, fillings, only}

pub in_counts : (n l k : ℕ) → Memᴰ n (counts l k) → (l ≤ n) × (n < l + k)
in_counts n l zero m = absurd (Memᴰ.not-nil m)
in_counts n l (suc k) m = elim (Memᴰ.cases_cons m) [ inl e ↦ (omega arith, omega arith) | inr t ↦ let ih = in_counts n (l + 1) k t in (omega arith, omega arith) ]

pub counts_has : (n l k : ℕ) → l ≤ n → n < l + k → Memᴰ n (counts l k)
counts_has n l zero a b = absurd (omega arith)
counts_has n l (suc k) a b = elim (cases_eq n l) [ inl e ↦ Memᴰ.head e | inr d ↦ Memᴰ.tail (counts_has n (l + 1) k (omega arith) (omega arith)) ]

-- a filling of `each` is a count before a filling
pub in_each : (q : List ℕ) (cs : List ℕ) (ps : List (List ℕ)) → Memᴰ q (each cs ps)
    → (n : ℕ) × (p : List ℕ) × (n ∷ p ≡ q) × Memᴰ n cs × Memᴰ p ps
in_each q [] ps m = absurd (Memᴰ.not-nil m)
in_each q (c ∷ cs) ps m = elim (Memᴰ.append_cases (map (λ p. c ∷ p) ps) m) [
  | inl h ↦ let (p, i, e) = Memᴰ.of_map (λ p. c ∷ p) ps h in (c, p, e, Memᴰ.head refl, i)
  | inr t ↦ let (n, p, e, i, j) = in_each q cs ps t in (n, p, e, Memᴰ.tail i, j)
]

pub each_has : (n : ℕ) (p : List ℕ) (cs : List ℕ) (ps : List (List ℕ)) → Memᴰ n cs → Memᴰ p ps → Memᴰ (n ∷ p) (each cs ps)
each_has n p [] ps i j = absurd (Memᴰ.not-nil i)
each_has n p (c ∷ cs) ps i j = elim (Memᴰ.cases_cons i) [
  | inl e ↦ Memᴰ.append_left (each cs ps) (Memᴰ.cast (ap (λ k. k ∷ p) e) (Memᴰ.map (λ p. c ∷ p) j))
  | inr t ↦ Memᴰ.append_right (map (λ p. c ∷ p) ps) (each_has n p cs ps t j)
]

pub in_fillings : (p : List ℕ) (a : List Row) → Memᴰ p (fillings a) → Fills p a
in_fillings p [] m = subst (λ q. Fills q []) (sym (Memᴰ.eq_of_singleton m)) tt
in_fillings p (r ∷ a) m =
    let (n, q, e, i, j) = in_each p (counts r.low ((r.high + 1) - r.low)) (fillings a) m in
    let k = in_counts n _ _ i in
    subst (λ s. Fills s (r ∷ a)) e (omega arith, omega arith, in_fillings q a j)

pub fillings_has : (p : List ℕ) (a : List Row) → Fills p a → Memᴰ p (fillings a)
fillings_has [] [] f = Memᴰ.head refl
fillings_has [] (r ∷ a) f = absurd f
fillings_has (n ∷ p) [] f = absurd f
fillings_has (n ∷ p) (r ∷ a) f = each_has n p _ _ (counts_has n r.low _ f.0 (omega arith)) (fillings_has p a f.2)

module _ (meets : List ℕ → Bool) where
  pub in_only : (p : List ℕ) (ps : List (List ℕ)) → Memᴰ p (only meets ps) → Memᴰ p ps × (meets p ≡ true)
  in_only p [] m = absurd (Memᴰ.not-nil m)
  in_only p (q ∷ ps) m = cond_both (meets q) _ _ (λ l. Memᴰ p l → Memᴰ p (q ∷ ps) × (meets p ≡ true))
      (λ t i. elim (Memᴰ.cases_cons i) [ inl e ↦ (Memᴰ.head e, ap meets e ∙ t) | inr j ↦ let ih = in_only p ps j in (Memᴰ.tail ih.0, ih.1) ])
      (λ f i. let ih = in_only p ps i in (Memᴰ.tail ih.0, ih.1)) m

  pub only_has : (p : List ℕ) (ps : List (List ℕ)) → Memᴰ p ps → meets p ≡ true → Memᴰ p (only meets ps)
  only_has p [] m t = m
  only_has p (q ∷ ps) m t = cond_both (meets q) _ _ (λ l. Memᴰ p l)
      (λ _. elim (Memᴰ.cases_cons m) [ inl e ↦ Memᴰ.head e | inr i ↦ Memᴰ.tail (only_has p ps i t) ])
      (λ f. elim (Memᴰ.cases_cons m) [ inl e ↦ absurd (both_ways (meets q) f (ap meets (sym e) ∙ t)) | inr i ↦ only_has p ps i t ])
