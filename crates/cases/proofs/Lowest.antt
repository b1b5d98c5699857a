-- A rule that changes rows, known by the board that it leaves; families of one rule.
use Rattle.std.proofs.Common.{◌≡◌, ℕ, zero, suc, ◌<◌, true, List, length, sym, ap, ◌∙◌, arith}
use Rattle.bounds.specs.declared.row.Row.{Row}
use Rattle.bounds.specs.Boards.{Board, cells, width, spread, sound}
use Rattle.bounds.specs.Laws.{Meaning}
use Rattle.settling.specs.declared.settled.Settled.TheVariants.{Settled}
use Rattle.settling.specs.Settles.{Settles}
use Rattle.settling.specs.Plans.{Lowest, Still, stay, more}

pub lowest : (m : Meaning) (a : List Row) (b : Board) (r : ℕ) → r < m.size → ((q : ℕ) → q < r → (m.rule q).narrowed a ≡ cells a)
    → (m.rule r).narrowed a ≡ b → width b < spread a → Lowest m a r
lowest m a b r s before e less = record {
  listed = s;
  before = before;
  moves = λ f. omega (arith, ap width (sym e ∙ f));
}

pub lowest_first : (m : Meaning) (a : List Row) (b : Board) → 0 < m.size → (m.rule 0).narrowed a ≡ b → width b < spread a → Lowest m a 0
lowest_first m a b s e less = lowest m a b 0 s (λ q h. absurd (omega arith)) e less

pub still_alone : (m : Meaning) (a : List Row) → m.size ≡ 1 → (m.rule 0).narrowed a ≡ cells a → Still m (cells a)
still_alone m a s e zero h = e
still_alone m a s e (suc r) h = absurd (omega arith)

pub settles_once : (m : Meaning) (a b : List Row) → m.size ≡ 1 → (m.rule 0).narrowed a ≡ cells b → spread b < spread a
    → (m.rule 0).narrowed b ≡ cells b → sound b ≡ true → length b ≡ length a → Settles m a b (Settled 1)
settles_once m a b s e less quiet k l =
    (more stay 0 (lowest_first m a (cells b) (omega arith) e less) e, still_alone m b s quiet, k, l)
