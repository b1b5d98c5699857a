use Rattle.plates.specs.Form.{count_of}
use Rattle.plates.proofs.Writes.{Writing}
use Rattle.plates.proofs.frame.Frame.write_counts.Given as goal

abbrev pub invariant-loop-row : goal.invariant-loop-row
invariant-loop-row l = Writing (count_of l.self) l.initial.counts l.counts l.row-index l.changed
