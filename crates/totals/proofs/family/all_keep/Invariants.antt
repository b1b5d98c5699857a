use Rattle.std.proofs.Common.{◌≡◌, ℕ, ◌<◌, true, slice_index}
use Rattle.records.specs.Records.{total_at}
use Rattle.records.specs.Forms.{total_limits}
use Rattle.totals.proofs.family.all_keep.Given as goal

abbrev pub invariant-loop-place : goal.invariant-loop-place
invariant-loop-place l = (i : ℕ) → i < l.place-index → total_limits (total_at l.file (slice_index l.places i)) ≡ true
