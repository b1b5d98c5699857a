-- The laws of the totals of a job file.
use Rattle.std.proofs.Common.{◌≡◌, ℕ, suc, ◌<◌, ◌≤◌, true, false, leb, List, [], ◌∷◌, length, refl, ap, inl, inr, arith}
use lib.ListN.{length-map}
use Rattle.std.proofs.lemmas.Bool.{cond_both, cond-true, cond-false, cases_Bool, both_ways, leb-true, and_parts}
use Rattle.records.specs.Records.{Term, Total}
use Rattle.records.specs.Forms.{between, term_cells, weighted, total_limits}
use Rattle.bounds.specs.Scoped.{Scoped, ScopedLaws}
use Rattle.bounds.proofs.Rows.{inside_all}
use Rattle.linear.specs.Totals.{weights_of, unnamed, total_scoped}
use Rattle.linear.specs.Linear.{linear}
use Rattle.linear.proofs.Weights.{Positive}
use Rattle.linear.proofs.LinearLaws.{linear_laws}

pub unnamed_laws : ScopedLaws unnamed
unnamed_laws = record {
  real = λ a e s. s;
  within = λ a e s. inside_all a a s (λ p f. f);
  monotone = λ a b e k s t w. w;
  keeps = λ a p e s f m. f;
  rejects = λ a p e f m. absurd (both_ways true m refl);
}

pub weights_positive : (ts : List Term) → weighted ts ≡ true → Positive (weights_of ts)
weights_positive [] e = tt
weights_positive (t ∷ ts) e =
    let k = and_parts (between 1 1000000 t.weight) (weighted ts) e in
    (leb-true 1 t.weight (and_parts (leb 1 t.weight) (leb t.weight 1000000) k.0).0, weights_positive ts k.1)

pub as_many : (ts : List Term) → length (weights_of ts) ≡ length (term_cells ts)
as_many [] = refl
as_many (t ∷ ts) = ap suc (as_many ts)

-- what a record that keeps its limits says
pub record Lawful (t : Total) : Type 0 where
  pub some : 1 ≤ length t.terms
  pub few : length t.terms ≤ 64
  pub weights : weighted t.terms ≡ true
  pub ordered : t.floor ≤ t.ceiling
  pub bounded : t.ceiling ≤ 10000000000000

pub lawful_says : (t : Total) → total_limits t ≡ true → Lawful t
lawful_says t e =
    let a = and_parts _ _ e in let b = and_parts _ _ a.0 in let c = and_parts _ _ a.1 in let d = and_parts _ _ c.1 in
    record { some = leb-true 1 _ b.0; few = leb-true _ 64 b.1; weights = d.1; ordered = leb-true _ _ c.0; bounded = leb-true _ 10000000000000 d.0 }

pub total_laws : (t : Total) → ScopedLaws (total_scoped t)
total_laws t = cond_both (total_limits t) (linear (term_cells t.terms) (weights_of t.terms) t.floor t.ceiling) unnamed ScopedLaws
    (λ e. linear_laws (weights_of t.terms) t.floor t.ceiling (weights_positive t.terms (lawful_says t e).weights) (term_cells t.terms) (as_many t.terms))
    (λ _. unnamed_laws)

abbrev pub stated : Total → Scoped
stated t = linear (term_cells t.terms) (weights_of t.terms) t.floor t.ceiling

pub total_stated : (t : Total) → total_limits t ≡ true → total_scoped t ≡ stated t
total_stated t e = cond-true (total_limits t) (stated t) unnamed e

pub total_unnamed : (t : Total) → total_limits t ≡ false → total_scoped t ≡ unnamed
total_unnamed t e = cond-false (total_limits t) (stated t) unnamed e

-- a total that names a cell keeps its limits
pub named_lawful : (t : Total) (n : ℕ) → n < length (total_scoped t).scope → total_limits t ≡ true
named_lawful t n h = elim (cases_Bool (total_limits t)) [
  | inl e ↦ e
  | inr e ↦ absurd (omega (arith, ap (λ (s : Scoped). length s.scope) (total_unnamed t e)))
]

pub total_few : (t : Total) → length (total_scoped t).scope ≤ 66
total_few t = cond_both (total_limits t) (stated t) unnamed (λ (s : Scoped). length s.scope ≤ 66)
    (λ e. let l = (lawful_says t e).few in let m = length-map t.terms (λ x. x.weight) in let n = as_many t.terms in omega arith) (λ _. omega arith)
