-- Stated of what this crate defines, and used by none of its proofs.
use Rattle.std.proofs.Common.{◌≡◌, ℕ, List, [], ◌∷◌, sym, refl}
use Rattle.records.specs.Records.{total_at}
use Rattle.bounds.specs.Laws.{FiveLaws}
use Rattle.bounds.proofs.Lifted.{numbered_lawful}
use Rattle.linear.specs.Linear.{weighed, limits}
use Rattle.linear.specs.Totals.{totals}
use Rattle.linear.proofs.TotalLaws.{total_laws}
use Rattle.linear.proofs.Weights.{same_limits}

weighed_none : (ws : List ℕ) → weighed ws [] ≡ 0
weighed_none [] = refl
weighed_none (w ∷ ws) = refl

-- the limits before any cell is weighed
pub limits_none : (ws : List ℕ) (floor ceiling : ℕ) → limits [] floor ceiling [] ≡ limits ws floor ceiling []
limits_none ws floor ceiling = let e = weighed_none ws in same_limits _ _ refl refl (sym e) (sym e)

pub totals_lawful : (file places : List ℕ) → FiveLaws (totals file places)
totals_lawful file places = numbered_lawful _ _ (λ r. total_laws (total_at file _))
