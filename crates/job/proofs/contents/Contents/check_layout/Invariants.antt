use Rattle.std.proofs.Common.{◌≡◌, ◌+◌, ◌*◌, length}
use Rattle.job.specs.Contents.{misplaced, entries_from}
use Rattle.job.proofs.Listings.{left}
use Rattle.job.proofs.contents.Contents.check_layout.Given as goal

abbrev pub invariant-loop-place : goal.invariant-loop-place
invariant-loop-place l = let f = l.self.file.bytes.now in let i = l.place-iterator.numbers.start in (l.place-iterator.numbers.end ≡ l.self.count) × (l.place-iterator.file.now ≡ f)
    × (misplaced (length f) l.start (1 + 9 * i) (left f l.self.count i) ≡ misplaced (length f) (1 + 9 * l.self.count) 1 (entries_from l.self.count f 1))
