-- The cells of a total that can still be met, place by place.
use Rattle.std.proofs.Common.{◌≡◌, ℕ, ◌*◌, ◌<◌, ◌≤◌, List, length, get_or, sym, ap, ◌∙◌, ap₂, arith}
use lib.ListN.{length-map}
use Rattle.bounds.specs.declared.row.Row.{Row}
use Rattle.bounds.specs.Boards.{none_row}
use Rattle.linear.specs.declared.limits.Limits.{Limits}
use Rattle.linear.specs.Linear.{bounded}
use Rattle.linear.proofs.Weights.{weighed_one, positive_at, bounded_length, bounded_at}
use Rattle.linear.proofs.TotalLaws.{weights_positive}
use Rattle.totals.specs.declared.total.Total.{Total}
use Rattle.totals.specs.Read.{record_of, weights}
use Rattle.totals.specs.Narrowing.{limits_of, new_rows, Opened}

-- what bounding a cell of weight w requires
pub record Ready (l : Limits) (w : ℕ) (r : Row) : Type 0 where
  pub weight : 0 < w
  pub low : w * r.low ≤ l.least
  pub high : w * r.high ≤ l.most

module _ (t : Total) (a : List Row) (l : Limits) (o : Opened t a l) where
  as_many : length (weights t) ≡ length a
  as_many = length-map (record_of t).terms (λ x. x.weight) ∙ sym o.many

  pub new_length : length (new_rows t a) ≡ length a
  new_length = bounded_length (limits_of t a) (weights t) a as_many

  module _ (i w : ℕ) (h : i < length a) (e : w ≡ get_or (weights t) i 0) where
    pub ready : Ready l w (get_or a i none_row)
    ready =
        let one = weighed_one (weights t) a i h as_many in
        let low = ap (λ n. n * (get_or a i none_row).low) e in
        let high = ap (λ n. n * (get_or a i none_row).high) e in
        let k = as_many in
        record {
          weight = omega (arith, positive_at (weights t) i (weights_positive (record_of t).terms o.lawful) (omega arith));
          low = omega (arith, ap (λ x. x.least) o.value);
          high = omega (arith, ap (λ x. x.most) o.value);
        }

    pub new_at : (g : Row) → g ≡ bounded l w (get_or a i none_row) → get_or (new_rows t a) i none_row ≡ g
    new_at g f = bounded_at (limits_of t a) (weights t) a i h as_many ∙ (sym (ap₂ (λ (x : Limits) (n : ℕ). bounded x n (get_or a i none_row)) o.value e) ∙ sym f)
