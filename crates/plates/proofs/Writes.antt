-- A loop that writes f x over each row x, and notes whether one differs.
use Rattle.std.proofs.Common.{◌≡◌, ℕ, ◌<◌, ◌≤◌, Bool, true, false, not, ◌≢◌, List, map, length, get_or, sym, refl, ap, ◌∙◌, arith}
use Rattle.std.proofs.lemmas.List.{length-map, get_or-map}
use Rattle.bounds.specs.declared.row.Row.{Row}
use Rattle.bounds.specs.Boards.{none_row}
use Rattle.bounds.proofs.Places.{same_rows}
use Rattle.rules.proofs.Compared.{same_row_test, rows_differ, rows_agree}
use Rattle.plates.specs.Form.{Frame}
use Rattle.plates.specs.Form.{count_of}
use Rattle.plates.specs.Work.{Wrote}

-- what `!=` on rows says
abbrev pub Differ : Row → Row → Bool → Type 0
Differ a b r = r ≡ not (same_row_test a b)

pub differ : (a b : Row) (r : Bool) → Differ a b r → (r ≡ true → a ≢ b) × (r ≡ false → a ≡ b)
differ a b r e = (λ t. rows_differ a b _ refl (sym t ∙ e), λ t. rows_agree a b _ refl (sym t ∙ e))

-- the rows xs were there, and ys is there now, written below i
pub record Writing (f : Row → Row) (xs ys : List Row) (i : ℕ) (b : Bool) : Type 0 where
  pub done : (j : ℕ) → j < i → get_or ys j none_row ≡ f (get_or xs j none_row)
  pub left : (j : ℕ) → i ≤ j → get_or ys j none_row ≡ get_or xs j none_row
  pub same : b ≡ false → (j : ℕ) → j < i → f (get_or xs j none_row) ≡ get_or xs j none_row
  pub other : b ≡ true → (j : ℕ) × (j < i) × (f (get_or xs j none_row) ≢ get_or xs j none_row)

pub writing_all : (f : Frame) (xs ys : List Row) (i : ℕ) (b : Bool) → length ys ≡ length xs → length xs ≤ i → Writing (count_of f) xs ys i b → Wrote f xs ys b
writing_all f xs ys i b n l w =
    let is : ys ≡ map (count_of f) xs = same_rows ys (map (count_of f) xs) (n ∙ sym (length-map xs (count_of f)))
    (λ k h. w.done k (omega (arith, length-map xs (count_of f))) ∙ sym (get_or-map (count_of f) xs k none_row none_row (omega (arith, length-map xs (count_of f))))) in
    record {
      is = is;
      same = λ z. same_rows ys xs n (λ k h. w.done k (omega arith) ∙ w.same z k (omega arith));
      other = λ z q. let (j, k, p) = w.other z in p (sym (w.done j k) ∙ ap (λ (r : List Row). get_or r j none_row) q);
    }
