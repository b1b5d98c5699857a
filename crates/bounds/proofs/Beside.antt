-- Two lawful families side by side are a lawful family.
use Rattle.std.proofs.Common.{◌≡◌, ◌-◌, true, ltb, List, get_or, refl, ap, arith}
use Rattle.std.proofs.lemmas.Bool.{cond_both, both_ways, ltb-true, ltb-false}
use Rattle.bounds.specs.declared.row.Row.{Row}
use Rattle.bounds.specs.Boards.{none_row}
use Rattle.bounds.specs.Laws.{Rule, Meaning, idle, Laws, FiveLaws}
use Rattle.bounds.specs.Beside.{beside}
use Rattle.bounds.proofs.Rows.{inside_all, cells_void, cells_same}

pub idle_laws : Laws idle
idle_laws = record {
  real = λ a s. s;
  within = λ a s. inside_all a a s (λ p f. f);
  monotone = λ a b s t w. w;
  keeps = λ a p s f m. f;
  decides = λ a p s f k. (λ e. absurd (cells_void a e), λ e. absurd (both_ways true e refl));
  local_meets = λ p q e k. refl;
  local_frame = λ a g s e c l t. ap (λ (x : List Row). get_or x c none_row) (cells_same a g e);
  local_end = λ a b s t e same. same;
}

pub beside_lawful : (a b : Meaning) → FiveLaws a → FiveLaws b → FiveLaws (beside a b)
beside_lawful a b la lb = record {
  few = omega arith;
  each = λ r. cond_both (ltb r a.size) _ _ (λ (u : Rule). Laws u) (λ _. la.each r)
      (λ _. cond_both (ltb r 4096) _ _ (λ (u : Rule). Laws u) (λ _. lb.each (r - a.size)) (λ _. idle_laws));
  beyond = λ r l. cond_both (ltb r a.size) _ _ (λ (u : Rule). u ≡ idle) (λ k. la.beyond r (omega (arith, ltb-true r a.size k)))
      (λ k. cond_both (ltb r 4096) _ _ (λ (u : Rule). u ≡ idle) (λ h. lb.beyond (r - a.size) (omega (arith, ltb-false r a.size k, ltb-true r 4096 h))) (λ _. refl));
}
