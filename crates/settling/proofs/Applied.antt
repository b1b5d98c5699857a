-- Applications of rules, one after another: what they keep, and one more.
use Rattle.std.proofs.Common.{◌≡◌, ℕ, ◌+◌, ◌<◌, ◌≤◌, true, ◌≢◌, List, sym, ◌∙◌}
use Rattle.bounds.specs.declared.row.Row.{Row}
use Rattle.bounds.specs.Boards.{void, cells, sound, Inside, Fills, spread}
use Rattle.bounds.specs.Laws.{Meaning, FiveLaws}
use Rattle.bounds.proofs.Rows.{inside_all, cells_same, cells_void}
use Rattle.settling.specs.Plans.{Lowest, Applies, Plan}
use Rattle.settling.proofs.Holds.{Holds, holds_all, holds_applied}

-- every rule below r leaves the rows as they are
abbrev pub QuietBelow : Meaning → List Row → ℕ → Type 0
QuietBelow m a r = (q : ℕ) → q < r → (m.rule q).narrowed a ≡ cells a

pub lowest_narrows : (m : Meaning) (b : List Row) (r : ℕ) → r < m.size → QuietBelow m b r → (c : List Row)
    → (m.rule r).narrowed b ≡ cells c → c ≢ b → Lowest m b r
lowest_narrows m b r listed quiet c e ne = record { listed = listed; before = quiet; moves = λ f. ne (cells_same c b (sym e ∙ f)) }

pub lowest_voids : (m : Meaning) (b : List Row) (r : ℕ) → r < m.size → QuietBelow m b r → (m.rule r).narrowed b ≡ void → Lowest m b r
lowest_voids m b r listed quiet e = record { listed = listed; before = quiet; moves = λ f. cells_void b (sym f ∙ e) }

-- b is narrower than a, and no plan is lost
pub record Keeps (m : Meaning) (a b : List Row) : Type 0 where
  pub still_sound : sound b ≡ true
  pub inside : Inside b a
  pub plans : (p : List ℕ) → Plan m p → Fills p a → Fills p b

module _ (m : Meaning) (laws : FiveLaws m) {a b : List Row} {n : ℕ} (s : sound a ≡ true) (x : Applies m a b n) where
  pub applied_holds : Holds m (λ p. Fills p a) (cells b)
  applied_holds = (holds_applied m laws (λ p. Fills p a) x (holds_all m a s)).0

  pub applied_keeps : Keeps m a b
  applied_keeps = let h = applied_holds in record {
    still_sound = h.real;
    inside = inside_all b a h.real h.allowed;
    plans = h.plans;
  }

  pub applied_narrower : n + spread b ≤ spread a
  applied_narrower = (holds_applied m laws (λ p. Fills p a) x (holds_all m a s)).1
