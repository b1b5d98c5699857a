-- The event that a seek's answer is, and what it says of the memory lent to it.
use Rattle.std.specs.Prelude.{◌≡◌, ℕ, ◌+◌, ◌==◌, nat_lt, not, count_by, Bool, true, false, List, length, take, drop, slice_index_or, slice_set, Ok, Err, Result}
use Rattle.bounds.specs.declared.row.Row.{Row}
use Rattle.bounds.specs.Boards.{Fills, none_row}
use Rattle.bounds.specs.Laws.{Meaning}
use Rattle.board.specs.declared.refusal.Refusal.{Refusal}
use Rattle.board.specs.Calls as calls
use Rattle.board.specs.Calls.{Event, refused, found, none_found}
use Rattle.board.specs.Held.{number}
use Rattle.settling.specs.Plans.{First, NoPlan}

-- of n cells, with the plan memory and the scratch as the seek left them
abbrev pub event_of_seek : ℕ → List ℕ → List Row → Result Bool Refusal → Event
event_of_seek n plan scratch (Ok true) = found (length plan) (length scratch) (take n plan)
event_of_seek n plan scratch (Ok false) = none_found (length plan) (length scratch)
event_of_seek n plan scratch (Err e) = refused (calls.seek (length plan) (length scratch)) (number e)

-- Plan memory from p to q, scratch from s to t: a plan is written over the first n counts alone; with none the plan memory
-- stays, and where the seek is refused the scratch does too. Otherwise what the scratch holds is free.
abbrev pub Memory : ℕ → List ℕ → List ℕ → List Row → List Row → Result Bool Refusal → Type 0
Memory n p q s t (Ok true) = drop n q ≡ drop n p
Memory n p q s t (Ok false) = q ≡ p
Memory n p q s t (Err e) = (q ≡ p) × (t ≡ s)

-- whether the row has more than one count
abbrev pub is_open : Row → Bool
is_open r = not (r.low == r.high)

-- how many cells are open, of sound rows
abbrev pub opens : List Row → ℕ
opens = count_by (λ r. nat_lt r.low r.high)

-- the rows with a cell at its lowest count, and without it
abbrev pub fixed_at : List Row → ℕ → List Row
fixed_at a c = let low = (slice_index_or a c none_row).low in slice_set a c (record { low = low; high = low })

abbrev pub raised_at : List Row → ℕ → List Row
raised_at a c = let r = slice_index_or a c none_row in slice_set a c (record { low = r.low + 1; high = r.high })

-- whether there is a plan in the rows: the first is then written at the front of the counts
abbrev pub Searched : Meaning → List Row → List ℕ → List ℕ → Bool → Type 0
Searched m a p q true = First m (λ x. Fills x a) (take (length a) q) × (drop (length a) q ≡ drop (length a) p)
Searched m a p q false = NoPlan m (λ x. Fills x a) × (q ≡ p)
