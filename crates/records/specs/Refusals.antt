-- What a fault says: the number of its line, the kind of the body that it lies in, 0 outside bodies, and its place.
use Rattle.std.specs.Prelude.{ℕ}
use Rattle.records.specs.Kinds.{kind_number}
use Rattle.records.specs.declared.refused.Refused.{Refused}
use Rattle.records.specs.declared.fault.ByteFault.{ByteFault}
use Rattle.records.specs.declared.fault.ByteFault.TheVariants.{Contents, Record}
use Rattle.records.specs.declared.fault.RecordFault.{RecordFault}
use Rattle.records.specs.declared.fault.RecordFault.TheVariants.{Bytes, Number, Twice}

abbrev pub line : ℕ → ℕ → ℕ → Refused
line n k p = record { number = n; kind = k; place = p }

abbrev pub of_bytes : ByteFault → Refused
of_bytes (Contents end) = line 2 0 end
of_bytes (Record kind place) = line 5 (kind_number kind) place

abbrev pub of_record : RecordFault → Refused
of_record (Bytes fault) = of_bytes fault
of_record (Number kind place) = line 6 (kind_number kind) place
of_record (Twice kind place) = line 7 (kind_number kind) place
