-- A rule that narrows its own cells exactly and names none twice is idempotent on every board.
use Rattle.std.proofs.Common.{◌≡◌, true, sym, subst}
use Rattle.bounds.specs.Exact.{exact}
use Rattle.bounds.specs.Laws.{Idempotent}
use Rattle.bounds.specs.Scoped.{Scoped, distinct, on_board}
use Rattle.bounds.proofs.Lifted.{lifted_idempotent}

pub exact_idempotent : (s : Scoped) → s.narrowing ≡ exact s.relation → distinct s.scope ≡ true → Idempotent (on_board s)
exact_idempotent s e once =
    subst (λ n. Idempotent (on_board (record { scope = s.scope; relation = s.relation; narrowing = n }))) (sym e)
    (lifted_idempotent s.scope s.relation once)
