use Rattle.std.proofs.Common.{◌≡◌, false, ◌+◌, ◌*◌, ◌≤◌}
use Rattle.std.specs.Range.{range_inclusive_start, range_inclusive_end, range_inclusive_exhausted}
use Rattle.job.specs.Contents.{misordered, entries_from}
use Rattle.job.proofs.Listings.{left}
use Rattle.job.proofs.contents.Contents.check_kinds.Given as goal

abbrev pub invariant-loop-place : goal.invariant-loop-place
invariant-loop-place l = let i = l.place-iterator.numbers.start in (range_inclusive_exhausted l.due ≡ false) × (range_inclusive_end l.due ≤ 4) × (l.place-iterator.numbers.end ≡ l.self.count) × (l.place-iterator.file.now ≡ l.self.file.bytes.now)
    × (misordered (range_inclusive_start l.due) (range_inclusive_end l.due) (1 + 9 * i) (left l.self.file.bytes.now l.self.count i) ≡ misordered 1 1 1 (entries_from l.self.count l.self.file.bytes.now 1))
