-- The exact narrowing of a plate in closed form; slots and variety are the rows s and v, the counts the rows cs.
use Rattle.std.specs.Prelude.{ℕ, zero, suc, ◌+◌, ◌-◌, min, max, Bool, cond, ◌&&◌, List, [], ◌∷◌, map, nat_le, nat_lt}
use Rattle.bounds.specs.declared.row.Row.{Row}
use Rattle.bounds.specs.Boards.{Board, void, cells}
use Rattle.plates.specs.Plates.{one}

-- A count is certain if its low is above 0, else optional if its high is.
abbrev pub certain : List Row → ℕ
certain [] = 0
certain (r ∷ rs) = one r.low + certain rs

abbrev pub if_optional : ℕ → ℕ → ℕ
if_optional zero h = one h
if_optional (suc l) h = 0

abbrev pub optional : List Row → ℕ
optional [] = 0
optional (r ∷ rs) = if_optional r.low r.high + optional rs

abbrev pub low_sum : List Row → ℕ
low_sum [] = 0
low_sum (r ∷ rs) = r.low + low_sum rs

abbrev pub if_certain : ℕ → ℕ → ℕ
if_certain zero h = 0
if_certain (suc l) h = h

-- the sum of the highs of the certain counts
abbrev pub base : List Row → ℕ
base [] = 0
base (r ∷ rs) = if_certain r.low r.high + base rs

abbrev pub better : ℕ → ℕ → ℕ → ℕ → ℕ
better zero h leave take = max leave (h + take)
better (suc l) h leave take = leave

-- the largest sum of the highs of at most k counts that are not certain
abbrev pub top : List Row → ℕ → ℕ
top [] k = 0
top (r ∷ rs) zero = 0
top (r ∷ rs) (suc k) = better r.low r.high (top rs (suc k)) (top rs k)

-- the largest sum with k optional counts present; the least is low_sum + k
abbrev pub reach : List Row → ℕ → ℕ
reach cs k = base cs + top cs k

-- the first k' from k on, of n more at most, with need ≤ f k'
abbrev pub seek : (ℕ → ℕ) → ℕ → ℕ → ℕ → ℕ
seek f need k zero = k
seek f need k (suc n) = cond (nat_lt (f k) need) (seek f need (suc k) n) k

-- the most and the fewest optional counts present
abbrev pub most : Row → Row → List Row → ℕ
most s v cs = min (optional cs) (min (v.high - certain cs) (s.high - low_sum cs))

abbrev pub fewest : Row → Row → List Row → ℕ
fewest s v cs = seek (reach cs) s.low (v.low - certain cs) (most s v cs - (v.low - certain cs))

abbrev pub feasible : Row → Row → List Row → Bool
feasible s v cs =
    (nat_le (certain cs) v.high && nat_le (low_sum cs) s.high)
    && (nat_le (fewest s v cs) (most s v cs) && nat_le s.low (reach cs (fewest s v cs)))

-- what the new bounds are made of: the bounds of the slots, what the counts add up to, the fewest and the most optional
-- counts that can be present, and the largest sums with one fewer than the fewest, with the most, with one more
pub record Frame : Type 0 where
  pub floor : ℕ
  pub ceiling : ℕ
  pub certain : ℕ
  pub optional : ℕ
  pub lows : ℕ
  pub fewest : ℕ
  pub most : ℕ
  pub under : ℕ
  pub at : ℕ
  pub over : ℕ

-- with k1 to k2 optional counts present
abbrev pub frame_at : Row → List Row → ℕ → ℕ → Frame
frame_at s cs k1 k2 = record {
  floor = s.low;
  ceiling = s.high;
  certain = certain cs;
  optional = optional cs;
  lows = low_sum cs;
  fewest = k1;
  most = k2;
  under = reach cs (k1 - 1);
  at = reach cs k2;
  over = reach cs (suc k2);
}

abbrev pub slots_of : Frame → Row
slots_of f = record { low = max f.floor (f.lows + f.fewest); high = min f.ceiling f.at }

abbrev pub variety_of : Frame → Row
variety_of f = record { low = f.certain + f.fewest; high = f.certain + f.most }

-- the new bounds of a count with the bounds l and h
abbrev pub low_of : Frame → ℕ → ℕ → ℕ
low_of f zero zero = 0
low_of f zero (suc h) = cond (nat_lt f.fewest f.optional && nat_le (f.floor + suc h) f.over) 0 (max 1 ((f.floor + suc h) - f.at))
low_of f (suc l) h = max (suc l) ((f.floor + h) - f.at)

abbrev pub high_of : Frame → ℕ → ℕ → ℕ
high_of f zero h =
    cond (nat_lt 0 f.fewest && nat_le f.floor (h + f.under)) (min h ((f.ceiling + 1) - (f.lows + f.fewest)))
    (cond (nat_lt f.fewest f.most) (min h (f.ceiling - (f.lows + f.fewest))) 0)
high_of f (suc l) h = min h ((f.ceiling + suc l) - (f.lows + f.fewest))

abbrev pub count_of : Frame → Row → Row
count_of f r = record { low = low_of f r.low r.high; high = high_of f r.low r.high }

abbrev pub rows_of : Frame → List Row → List Row
rows_of f cs = slots_of f ∷ variety_of f ∷ map (count_of f) cs

abbrev pub frame_of : Row → Row → List Row → Frame
frame_of s v cs = frame_at s cs (fewest s v cs) (most s v cs)

abbrev pub narrowed : Row → Row → List Row → Board
narrowed s v cs = cond (feasible s v cs) (cells (rows_of (frame_of s v cs) cs)) void
