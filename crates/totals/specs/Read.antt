-- What a total borrowed from a file says.
use Rattle.std.specs.Prelude.{ℕ, List}
use Rattle.records.specs.Records as records
use Rattle.linear.specs.Totals.{weights_of}
use Rattle.totals.specs.declared.total.Total.{Total}

abbrev pub record_of : Total → records.Total
record_of t = records.total_at t.spot.bytes.now t.spot.place

abbrev pub weights : Total → List ℕ
weights t = weights_of (record_of t).terms
