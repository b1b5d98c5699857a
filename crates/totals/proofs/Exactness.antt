-- A total that is narrowed exactly on its own rows is narrowed exactly on the board.
use Rattle.std.proofs.Common.{◌≡◌, true, List, [], length, sym, refl, ap, ◌∙◌, subst, inl, inr}
use Rattle.std.proofs.lemmas.Bool.{cases_Bool, cond-true, cond-false}
use Rattle.records.specs.Records.{Total}
use Rattle.records.specs.Forms.{term_cells, total_limits}
use Rattle.bounds.specs.declared.row.Row.{Row}
use Rattle.bounds.specs.Boards.{Board, sound, none_row}
use Rattle.bounds.specs.Exact.{exact}
use Rattle.bounds.specs.Scoped.{Scoped, distinct, fits, gather, put, on_board, exact_on}
use Rattle.bounds.proofs.Scopes.{length_gather}
use Rattle.bounds.proofs.Lifted.{own_sound, lifted_exact}
use Rattle.linear.specs.Linear.{bounded_sum, sum_within}
use Rattle.linear.specs.Totals.{weights_of, total_scoped}
use Rattle.linear.proofs.Weights.{Positive}
use Rattle.linear.proofs.TotalLaws.{stated, total_stated, total_unnamed, lawful_says, weights_positive, as_many}

abbrev pub own : Total → List Row → List Row
own t a = gather none_row (term_cells t.terms) a

module _ (t : Total) (a : List Row) (once : distinct (total_scoped t).scope ≡ true) (s : sound a ≡ true)
    (own_exact : Positive (weights_of t.terms) → length (weights_of t.terms) ≡ length (own t a) → sound (own t a) ≡ true
    → bounded_sum (weights_of t.terms) t.floor t.ceiling (own t a) ≡ exact (sum_within (weights_of t.terms) t.floor t.ceiling) (own t a)) where
  same_as_exact : total_limits t ≡ true → (on_board (stated t)).narrowed a ≡ (on_board (exact_on (stated t).scope (stated t).relation)).narrowed a
  same_as_exact e = elim (cases_Bool (fits (stated t).scope (length a))) [
    | inl f ↦ cond-true _ _ _ f
        ∙ (ap (λ (b : Board). put (stated t).scope b a)
        (own_exact (weights_positive t.terms (lawful_says t e).weights) (as_many t.terms ∙ sym (length_gather none_row (stated t).scope a)) (own_sound (stated t).scope a f s))
        ∙ sym (cond-true _ _ _ f))
    | inr f ↦ cond-false _ _ _ f ∙ sym (cond-false _ _ _ f)
  ]

  abbrev Exact : Scoped → Type 0
  Exact r = (on_board r).narrowed a ≡ exact (on_board r).meets a

  pub board_exact : Exact (total_scoped t)
  board_exact = elim (cases_Bool (total_limits t)) [
    | inl e ↦ subst Exact (sym (total_stated t e))
        (same_as_exact e ∙ lifted_exact (stated t).scope (stated t).relation a (ap (λ (r : Scoped). distinct r.scope) (sym (total_stated t e)) ∙ once) s)
    | inr e ↦ subst Exact (sym (total_unnamed t e)) (lifted_exact [] (λ _. true) a refl s)
  ]
