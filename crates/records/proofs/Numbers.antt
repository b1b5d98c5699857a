-- Bytes that are read one by one.
use Rattle.std.proofs.Common.{◌≡◌, ℕ, zero, suc, ◌+◌, ◌<◌, List, slice_index, ap, sym, subst, ◌∙◌, arith}
use Rattle.std.specs.Array.{IsFromFnResultFrom}
use Rattle.std.specs.Fn.{Called, Mut}

-- a closure that stays as it was gave each item by its index
pub made_each : {F : Type 0} (g : Mut F (ℕ × Unit {0}) ℕ) (f : F) (of : ℕ → ℕ) (ys : List ℕ) (i n : ℕ)
    → ((j y : ℕ) (q : F) → Called g f (j, tt) y q → (q ≡ f) × (y ≡ of j))
    → IsFromFnResultFrom g f ys i n → (j k : ℕ) → k ≡ i + j → j < n → slice_index ys k ≡ of k
made_each g f of ys i zero h e j k s l = absurd (omega arith)
made_each g f of ys i (suc n) h (q, y, at, call, rest) zero k s l =
    let e : k ≡ i = omega arith in ap (slice_index ys) e ∙ at.1 0 ∙ (h i y q call).1 ∙ sym (ap of e)
made_each g f of ys i (suc n) h (q, y, at, call, rest) (suc j) k s l =
    made_each g f of ys (i + 1) n h (subst (λ p. IsFromFnResultFrom g p ys (i + 1) n) (h i y q call).0 rest) j k (omega arith) (omega arith)
