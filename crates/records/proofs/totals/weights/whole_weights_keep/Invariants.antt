use Rattle.records.proofs.Fields.{KeepBelow}
use Rattle.records.proofs.totals.weights.whole_weights_keep.Given as goal

abbrev pub invariant-loop-i : goal.invariant-loop-i
invariant-loop-i l = KeepBelow l.at.bytes.now l.at.place l.i
