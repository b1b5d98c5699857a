-- The plate rule: the copies of the designs fill the slots, and the variety is how many designs have a copy.
use Rattle.std.specs.Prelude.{ℕ, zero, suc, ◌+◌, Bool, true, false, cond, ◌&&◌, List, [], ◌∷◌, length, ◌==◌}
use Rattle.bounds.specs.Laws.{Meaning}
use Rattle.bounds.specs.Scoped.{Scoped, exact_on}
use Rattle.bounds.specs.Listed.{listed}
use Rattle.records.specs.Records.{Plate, plate_at}
use Rattle.records.specs.Forms.{between, plate_names}

abbrev pub sum : List ℕ → ℕ
sum [] = 0
sum (n ∷ ns) = n + sum ns

-- 1 for a count above 0
abbrev pub one : ℕ → ℕ
one zero = 0
one (suc n) = 1

-- how many counts are above 0
abbrev pub present : List ℕ → ℕ
present [] = 0
present (n ∷ ns) = one n + present ns

-- over the slots, the variety and the counts, in this order; with no cells nothing is asked
abbrev pub plate : List ℕ → Bool
plate [] = true
plate (slots ∷ []) = false
plate (slots ∷ variety ∷ counts) = slots == sum counts && variety == present counts

-- a plate has 1 to 64 counts; any other record names no cell
abbrev pub scope_of : Plate → List ℕ
scope_of p = cond (between 1 64 (length p.counts)) (plate_names p) []

abbrev pub plate_rule : List ℕ → ℕ → Scoped
plate_rule file place = exact_on (scope_of (plate_at file place)) plate

abbrev pub plates : List ℕ → List ℕ → Meaning
plates file places = listed plate_rule file places
