-- Stated of what this crate and those below define, and used by none of its proofs.
use Rattle.std.proofs.Common.{◌≡◌, ℕ, zero, suc, ◌<◌, ◌≤◌, true, false, leb, ◌⊎◌, List, [], ◌∷◌, length, get_or, ap, ◌∙◌, refl, inl, inr, arith}
use Rattle.std.proofs.lemmas.Bool.{cases_Bool, le-leb, lt-leb, and_from, and_left, and_right}
use Rattle.records.specs.Records.{Term}
use Rattle.records.specs.Forms.{between, weighted, total_limits}
use Rattle.bounds.specs.declared.row.Row.{Row}
use Rattle.bounds.specs.Boards.{cells}
use Rattle.bounds.specs.Scoped.{Scoped}
use Rattle.rule_families.specs.declared.change.Change.TheVariants.{Quiet}
use Rattle.linear.specs.declared.limits.Limits.{Limits}
use Rattle.linear.specs.Totals.{weights_of, total_scoped}
use Rattle.linear.proofs.TotalLaws.{Lawful, lawful_says, total_unnamed, named_lawful}
use Rattle.totals.specs.declared.total.Total.{Total}
use Rattle.totals.specs.Read.{record_of}
use Rattle.totals.specs.Narrowing.{limits_of, Opened}
use Rattle.totals.proofs.Outcomes.{Far}
use Rattle.totals.proofs.Scope.{scope_length}

-- whether weights keep their limits, place by place
pub all_lawful : (ts : List Term) → ((k : ℕ) → k < length ts → (1 ≤ get_or (weights_of ts) k 0) × (get_or (weights_of ts) k 0 ≤ 1000000)) → weighted ts ≡ true
all_lawful [] h = refl
all_lawful (t ∷ ts) h =
    let here = h 0 (omega arith) in
    and_from _ _ (and_from _ _ (le-leb 1 t.weight here.0) (le-leb t.weight 1000000 here.1)) (all_lawful ts (λ k l. h (suc k) (omega arith)))

pub one_unlawful : (ts : List Term) (k : ℕ) → k < length ts → (get_or (weights_of ts) k 0 < 1) ⊎ (1000000 < get_or (weights_of ts) k 0) → weighted ts ≡ false
one_unlawful [] k l h = absurd (omega arith)
one_unlawful (t ∷ ts) zero l (inl h) = and_left (between 1 1000000 t.weight) (weighted ts) (and_left (leb 1 t.weight) (leb t.weight 1000000) (lt-leb 1 t.weight h))
one_unlawful (t ∷ ts) zero l (inr h) = and_left (between 1 1000000 t.weight) (weighted ts) (and_right (leb 1 t.weight) (leb t.weight 1000000) (lt-leb t.weight 1000000 h))
one_unlawful (t ∷ ts) (suc k) l h = and_right (between 1 1000000 t.weight) (weighted ts) (one_unlawful ts k (omega arith) h)

-- before any row is compared
pub far_none : (g a : List Row) → Far g a 0 Quiet
far_none g a = (λ k h. absurd (omega arith), λ k h. absurd (omega arith))

module _ (t : Total) (a : List Row) (many : length a ≡ length (total_scoped (record_of t)).scope) where
  pub quiet_if_empty : length a ≡ 0 → (total_scoped (record_of t)).narrowing a ≡ cells a
  quiet_if_empty z = elim (cases_Bool (total_limits (record_of t))) [
    | inl e ↦ absurd (omega (arith, (lawful_says (record_of t) e).some, scope_length (record_of t) e))
    | inr e ↦ ap (λ (s : Scoped). s.narrowing a) (total_unnamed (record_of t) e)
  ]

  module _ (some : 0 < length a) where
    is_lawful : total_limits (record_of t) ≡ true
    is_lawful = named_lawful (record_of t) 0 (omega arith)

    pub says : Lawful (record_of t)
    says = lawful_says (record_of t) is_lawful

    pub all_terms : length a ≡ length (record_of t).terms
    all_terms = many ∙ scope_length (record_of t) is_lawful

    pub opened : (l : Limits) → l ≡ limits_of t a → Opened t a l
    opened l value = record { many = all_terms; few = omega (arith, all_terms, says.few); lawful = says.weights; value = value }
