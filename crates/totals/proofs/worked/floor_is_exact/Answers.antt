use Rattle.records.specs.Records.{total-at}
use Rattle.linear.specs.Totals.{weights-of}
use Rattle.linear.proofs.LinearExact.{floor-exact}
use Rattle.totals.proofs.Exactness.{own, board-exact}
use Rattle.totals.proofs.worked.floor_is_exact.Goals as goal

pub returns : goal.returns
returns c = λ file place a once s met. let t = total-at file place in
    board-exact t a once s (λ pos e k. floor-exact (weights-of t.terms) t.floor t.ceiling (own t a) pos e k met)
