-- Families of rules that name their cells, one after another: 4,096 at most, any past them left out.
use Rattle.std.specs.Prelude.{ℕ, min, cond, List, length, nat_lt, slice_index}
use Rattle.bounds.specs.Laws.{Meaning, idle}
use Rattle.bounds.specs.Scoped.{Scoped, on_board}

-- so many rules, of which `at` says which each is
abbrev pub numbered : ℕ → (ℕ → Scoped) → Meaning
numbered size at = let n = min 4096 size in
    record { size = n; rule = λ r. cond (nat_lt r n) (on_board (at r)) idle }

-- the rules are records at places of a file: `at` says which rule the bytes from a place on are
abbrev pub listed : (List ℕ → ℕ → Scoped) → List ℕ → List ℕ → Meaning
listed at file places = numbered (length places) (λ r. at file (slice_index places r))
