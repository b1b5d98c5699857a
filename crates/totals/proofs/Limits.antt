-- The limits with one cell more, and how many weights there are.
use Rattle.std.proofs.Common.{◌≡◌, ℕ, suc, ◌+◌, ◌*◌, ◌<◌, List, length, get_or, take, ap, arith, ◌∙◌}
use lib.ListN.{length-map}
use Rattle.std.proofs.lemmas.Grind.{common_steps}
use Rattle.bounds.specs.declared.row.Row.{Row}
use Rattle.bounds.specs.Boards.{lows, highs, none_row}
use Rattle.linear.specs.Linear.{weighed}
use Rattle.linear.proofs.Weights.{weighed_more}
use Rattle.totals.specs.declared.total.Total.{Total}
use Rattle.totals.specs.Read.{record_of, weights}

module _ (ws : List ℕ) (a : List Row) (i : ℕ) (h : i < length a) (e : length ws ≡ length a) where
  pub least_more : weighed ws (lows (take (i + 1) a)) ≡ weighed ws (lows (take i a)) + get_or ws i 0 * (get_or a i none_row).low
  least_more = let s : i + 1 ≡ suc i = omega arith in ap (λ n. weighed ws (lows (take n a))) s ∙ (weighed_more ws a i h e).0

  pub most_more : weighed ws (highs (take (i + 1) a)) ≡ weighed ws (highs (take i a)) + get_or ws i 0 * (get_or a i none_row).high
  most_more = let s : i + 1 ≡ suc i = omega arith in ap (λ n. weighed ws (highs (take n a))) s ∙ (weighed_more ws a i h e).1

pub weights_length : (t : Total) → length (weights t) ≡ length (record_of t).terms
weights_length t = length-map (record_of t).terms (λ x. x.weight)

pub ruleset limiting = (common_steps, least_more, most_more, weights_length)
