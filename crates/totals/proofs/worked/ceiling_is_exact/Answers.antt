use Rattle.records.specs.Records.{total_at}
use Rattle.linear.specs.Totals.{weights_of}
use Rattle.linear.proofs.LinearExact.{ceiling_exact}
use Rattle.totals.proofs.Exactness.{own, board_exact}
use Rattle.totals.proofs.worked.ceiling_is_exact.Goals as goal

pub returns : goal.returns
returns c = λ file place a once s met. let t = total_at file place in
    board_exact t a once s (λ pos e k. ceiling_exact (weights_of t.terms) t.floor t.ceiling (own t a) pos e k met)
