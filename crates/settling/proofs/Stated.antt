-- Stated of lists alone, and used by none of this crate's proofs.
use Rattle.std.proofs.Common.{◌≡◌, ℕ, zero, suc, true, get_or, replicate, refl}

pub all_pending : (n q : ℕ) → get_or (replicate n true) q true ≡ true
all_pending zero q = refl
all_pending (suc n) zero = refl
all_pending (suc n) (suc q) = all_pending n q
