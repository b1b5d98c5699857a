-- Rows with one count each that no rule narrows are a plan.
use Rattle.std.proofs.Common.{◌≡◌, ℕ, zero, suc, true, List, [], ◌∷◌, sym, refl, ◌∙◌, ⊎_elim, arith}
use Rattle.std.proofs.lemmas.Bool.{cases_Bool}
use Rattle.bounds.specs.declared.row.Row.{Row}
use Rattle.bounds.specs.Boards.{cells, Fills, Fixed, sound}
use Rattle.bounds.specs.Laws.{Meaning, FiveLaws}
use Rattle.bounds.proofs.Places.{low_at, high_at}
use Rattle.bounds.proofs.Rows.{cells_void}
use Rattle.settling.specs.Plans.{Plan, Still}

fixed_fills : (a : List Row) (p : List ℕ) → Fixed a p → Fills p a
fixed_fills [] [] f = tt
fixed_fills [] (n ∷ p) f = f
fixed_fills (x ∷ a) [] f = f
fixed_fills (x ∷ a) (n ∷ p) f = (omega arith, omega arith, fixed_fills a p f.2)

fixed_cell : (a : List Row) (p : List ℕ) → Fixed a p → (c : ℕ) → low_at a c ≡ high_at a c
fixed_cell [] p f c = refl
fixed_cell (x ∷ a) [] f c = absurd f
fixed_cell (x ∷ a) (n ∷ p) f zero = omega arith
fixed_cell (x ∷ a) (n ∷ p) f (suc c) = fixed_cell a p f.2 c

pub fixed_plan : (m : Meaning) → FiveLaws m → (a : List Row) → sound a ≡ true → Still m (cells a) → (p : List ℕ) → Fixed a p → Plan m p
fixed_plan m laws a s still p f r lt = ⊎_elim (λ e. e)
    (λ e. absurd (cells_void a (sym (still r lt) ∙ ((laws.each r).decides a p s (fixed_fills a p f) (λ c k l. fixed_cell a p f c)).1 e)))
    (cases_Bool ((m.rule r).meets p))
