-- Numbers in bytes.
use Rattle.std.specs.Prelude.{ℕ, zero, suc, ◌+◌, ◌*◌, List, slice_index}

-- the number in w bytes from a place, lowest byte first; a byte past the end reads as 0
abbrev pub number : ℕ → List ℕ → ℕ → ℕ
number zero f i = 0
number (suc w) f i = slice_index f i + 256 * number w f (i + 1)
