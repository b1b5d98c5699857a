-- The rule of a total, on the rows of its scope.
use Rattle.std.proofs.Common.{◌≡◌, ℕ, ◌+◌, ◌*◌, ◌<◌, ◌≤◌, true, ◌⊎◌, length, get_or, sym, ap, ◌∙◌, subst, inl, inr, arith}
use lib.ListN.{length-map}
use Rattle.std.proofs.lemmas.Bool.{cases_Bool}
use Rattle.records.specs.Bytes.{number}
use Rattle.records.specs.Records as records
use Rattle.records.specs.Forms.{weighted, total_limits}
use Rattle.bounds.specs.Scoped.{Scoped}
use Rattle.linear.specs.Totals.{total_scoped}
use Rattle.linear.proofs.TotalLaws.{lawful_says, total_stated, total_unnamed, named_lawful, as_many}
use Rattle.totals.specs.declared.total.Total.{Total}
use Rattle.totals.specs.Read.{record_of, weights}
use Rattle.records.proofs.Fields.{length_terms, get_or_cells, get_or_weights}

pub scope_length : (t : records.Total) → total_limits t ≡ true → length (total_scoped t).scope ≡ length t.terms
scope_length t e = ap (λ (s : Scoped). length s.scope) (total_stated t e) ∙ (sym (as_many t.terms) ∙ length-map t.terms (λ x. x.weight))

module _ (t : Total) (i : ℕ) (h : i < length (total_scoped (record_of t)).scope) where
  pub named_few : i < 64
  named_few = let e = named_lawful (record_of t) i h in omega (arith, (lawful_says (record_of t) e).few, scope_length (record_of t) e)

  pub named_inside : i < number 2 t.spot.bytes.now t.spot.place
  named_inside = let e = named_lawful (record_of t) i h in
      omega (arith, scope_length (record_of t) e, length_terms (number 2 t.spot.bytes.now t.spot.place) t.spot.bytes.now (t.spot.place + 18))

  pub named_cell : get_or (total_scoped (record_of t)).scope i 0 ≡ number 2 t.spot.bytes.now (t.spot.place + 18 + 6 * i)
  named_cell =
      let e = named_lawful (record_of t) i h in
      let k = scope_length (record_of t) e in
      let inside : i < length (record_of t).terms = omega arith in
      ap (λ (s : Scoped). get_or s.scope i 0) (total_stated (record_of t) e)
      ∙ get_or_cells _ t.spot.bytes.now (t.spot.place + 18) i (subst (λ n. i < n) (length_terms _ _ _) inside)

-- no cell is named, or those of a record that keeps its limits
pub scope_told : (t : records.Total) → (length (total_scoped t).scope ≡ 0)
    ⊎ ((length (total_scoped t).scope ≡ length t.terms) × (length t.terms ≤ 64) × (weighted t.terms ≡ true))
scope_told t = elim (cases_Bool (total_limits t)) [
  | inl e ↦ let l = lawful_says t e in inr (scope_length t e, l.few, l.weights)
  | inr e ↦ inl (ap (λ (s : Scoped). length s.scope) (total_unnamed t e))
]

-- of the record at a spot
pub spot_told : (t : Total) → (length (total_scoped (record_of t)).scope ≡ 0)
    ⊎ ((length (total_scoped (record_of t)).scope ≡ length (record_of t).terms) × (length (record_of t).terms ≤ 64) × (weighted (record_of t).terms ≡ true))
spot_told t = scope_told (record_of t)

pub weight_here : (t : Total) (i : ℕ) → i < length (record_of t).terms → get_or (weights t) i 0 ≡ number 4 t.spot.bytes.now (t.spot.place + (18 + 6 * i + 2))
weight_here t i h =
    let e = get_or_weights _ t.spot.bytes.now (t.spot.place + 18) i (subst (λ n. i < n) (length_terms _ _ _) h) in
    e ∙ ap (number 4 t.spot.bytes.now) (omega arith)
