-- The counts in another order: what the narrowing reads of them is the same.
use Rattle.std.proofs.Common.{◌≡◌, ℕ, zero, suc, ◌<◌, List, [], ◌∷◌, length, get_or, set, refl, ◌∙◌, arith}
use Rattle.bounds.specs.declared.row.Row.{Row}
use Rattle.bounds.specs.Boards.{none_row}
use Rattle.plates.specs.Form.{certain, optional, low_sum, base, top}
use Rattle.plates.proofs.Tops.{top_swap, top_same}

pub record Same (cs ds : List Row) : Type 0 where
  pub certains : certain cs ≡ certain ds
  pub optionals : optional cs ≡ optional ds
  pub least : low_sum cs ≡ low_sum ds
  pub bases : base cs ≡ base ds
  pub tops : (k : ℕ) → top cs k ≡ top ds k

same_refl : (cs : List Row) → Same cs cs
same_refl cs = record { certains = refl; optionals = refl; least = refl; bases = refl; tops = λ k. refl }

-- the same rows behind r, with s moved to the front
same_front : (r s : Row) (cs ds : List Row) → Same cs (s ∷ ds) → Same (r ∷ cs) (s ∷ (r ∷ ds))
same_front r s cs ds e = record {
  certains = omega arith;
  optionals = omega arith;
  least = omega arith;
  bases = omega arith;
  tops = λ k. top_same r cs (s ∷ ds) e.tops k ∙ top_swap r s ds k;
}

abbrev pub others : List Row → ℕ → List Row
others [] i = []
others (r ∷ cs) zero = cs
others (r ∷ cs) (suc i) = r ∷ others cs i

pub same_set : (cs : List Row) (i : ℕ) (x : Row) → i < length cs → Same (set cs i x) (x ∷ others cs i)
same_set [] i x h = absurd (omega arith)
same_set (r ∷ cs) zero x h = same_refl (x ∷ cs)
same_set (r ∷ cs) (suc i) x h = same_front r x (set cs i x) (others cs i) (same_set cs i x (omega arith))

pub same_others : (cs : List Row) (i : ℕ) → i < length cs → Same cs (get_or cs i none_row ∷ others cs i)
same_others [] i h = absurd (omega arith)
same_others (r ∷ cs) zero h = same_refl (r ∷ cs)
same_others (r ∷ cs) (suc i) h = same_front r (get_or cs i none_row) cs (others cs i) (same_others cs i (omega arith))
