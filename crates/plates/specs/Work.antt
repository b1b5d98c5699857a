-- What the parts of the code compute.
use Rattle.std.specs.Prelude.{⊤, ◌≡◌, ℕ, zero, suc, ◌+◌, ◌-◌, ◌*◌, ◌<◌, ◌≤◌, min, max, if◌then◌else◌, nat_le, nat_lt, ◌&&◌, length, Bool, true, false, ◌≢◌, List, [], ◌∷◌, map, Some, None, Option, slice_index, slice_index_or}
use Rattle.bounds.specs.declared.row.Row.{Row}
use Rattle.plates.specs.declared.frame.Sums.{Sums}
use Rattle.plates.specs.declared.frame.Widths.{Widths}
use Rattle.plates.specs.declared.frame.Frame.TheInside.{Inside}
use Rattle.plates.specs.Form.{Frame, certain, optional, low_sum, base, top, feasible, frame_of, count_of}

abbrev pub sum_at : List ℕ → ℕ → ℕ → ℕ
sum_at t b k = b + slice_index t k

-- the first sums are below the limit
abbrev pub Light : List ℕ → ℕ → ℕ → Type 0
Light t count limit = (k : ℕ) → k ≤ count → slice_index t k < limit

-- each sum adds no more than the one before
abbrev pub Concave : List ℕ → ℕ → Type 0
Concave t count = (k : ℕ) → k + 2 ≤ count → slice_index t k + slice_index t (k + 2) ≤ slice_index t (k + 1) + slice_index t (k + 1)

-- the largest sums t of at most so many highs, and u with one high more to choose from
pub record Admitted (t u : List ℕ) (count high : ℕ) : Type 0 where
  pub none : slice_index_or u 0 0 ≡ slice_index t 0
  pub all : slice_index_or u (count + 1) 0 ≡ slice_index t count + high
  pub some : (k : ℕ) → k < count → slice_index u (k + 1) ≡ max (slice_index t (k + 1)) (slice_index t k + high)

-- the sums over the rows, of which there are at most n
pub record Summed (cs : List Row) (s : Sums) (n : ℕ) : Type 0 where
  pub certains : s.certain ≡ certain cs
  pub optionals : s.optional ≡ optional cs
  pub least : s.lows ≡ low_sum cs
  pub bases : s.base ≡ base cs
  pub few : s.certain + s.optional ≤ n
  pub light : s.lows ≤ 65535 * n
  pub heavy : s.base ≤ 65535 * n

pub record Topped (cs : List Row) (t : List ℕ) (s : Sums) (n : ℕ) : Type 0 where
  pub tops : (k : ℕ) → k ≤ s.optional → slice_index t k ≡ top cs k
  pub limit : (k : ℕ) → k ≤ s.optional → slice_index t k ≤ 65535 * n

-- how far the bounds of a certain count lie apart
abbrev pub if_gap : ℕ → ℕ → ℕ
if_gap zero h = 0
if_gap (suc l) h = h - suc l

-- how far they do at most
abbrev pub gap : List Row → ℕ
gap [] = 0
gap (r ∷ rs) = max (if_gap r.low r.high) (gap rs)

-- and the greatest high of the counts that are not certain
pub record Wide (cs : List Row) (w : Widths) : Type 0 where
  pub certain : w.certain ≡ gap cs
  pub optional : w.optional ≡ top cs 1

abbrev pub numbers : Inside → Frame
numbers f = record {
  floor = f.floor;
  ceiling = f.ceiling;
  certain = f.certain;
  optional = f.optional;
  lows = f.lows;
  fewest = f.fewest;
  most = f.most;
  under = f.under;
  at = f.at;
  over = f.over;
}

-- numbers with room to add, as of a plate that can be filled
pub record Small (f : Frame) : Type 0 where
  pub floor : f.floor < 65536
  pub ceiling : f.ceiling < 65536
  pub least : f.lows < 16777216
  pub few : f.fewest < 65536
  pub under : f.under < 16777216
  pub enough : f.floor ≤ f.at
  pub order : f.fewest ≤ f.most
  pub light : f.lows + f.fewest ≤ f.ceiling
  pub kinds : f.certain + f.most < 65536

-- the most optional counts for which the bounds of the variety v and the slots s have room
abbrev pub room_for : Sums → Row → Row → Option ℕ
room_for m s v = if nat_le m.certain v.high && nat_le m.lows s.high then Some (min m.optional (min (v.high - m.certain) (s.high - m.lows))) else None

-- the first k from least to most whose sum is enough
abbrev pub First : List ℕ → ℕ → ℕ → ℕ → ℕ → Option ℕ → Type 0
First t b floor least most None = (k : ℕ) → least ≤ k → k ≤ most → sum_at t b k < floor
First t b floor least most (Some r) = (least ≤ r) × (r ≤ most) × (floor ≤ sum_at t b r) × ((k : ℕ) → least ≤ k → k < r → sum_at t b k < floor)

-- with r to k optional counts present, of which t has the largest sums
abbrev pub frame_with : Row → Sums → List ℕ → ℕ → ℕ → Frame
frame_with s m t r k = record {
  floor = s.low;
  ceiling = s.high;
  certain = m.certain;
  optional = m.optional;
  lows = m.lows;
  fewest = r;
  most = k;
  under = sum_at t m.base (r - 1);
  at = sum_at t m.base k;
  over = sum_at t m.base (min m.optional (k + 1));
}

-- and its numbers have room
pub record Spanned (s : Row) (m : Sums) (t : List ℕ) (r k : ℕ) : Type 0 where
  pub whole : m.optional < length t
  pub order : r ≤ k
  pub exist : k ≤ m.optional
  pub few : m.optional ≤ 64
  pub light : (j : ℕ) → j ≤ m.optional → sum_at t m.base j < 16777216
  pub small : Small (frame_with s m t r k)

abbrev pub Framed : Row → Row → List Row → Option Frame → Type 0
Framed s v cs None = feasible s v cs ≡ false
Framed s v cs (Some f) = (feasible s v cs ≡ true) × (f ≡ frame_of s v cs)

pub record Wrote (f : Frame) (a b : List Row) (changed : Bool) : Type 0 where
  pub is : b ≡ map (count_of f) a
  pub same : changed ≡ false → b ≡ a
  pub other : changed ≡ true → b ≢ a

-- the frame alone
abbrev pub the_frame : Option (Frame × Widths) → Option Frame
the_frame None = None
the_frame (Some p) = Some p.0

abbrev pub Widened : List Row → Option (Frame × Widths) → Type 0
Widened cs None = ⊤
Widened cs (Some p) = Wide cs p.1

-- what the slots have left beside the fewest copies, and what of it another optional count can have
abbrev pub room : Frame → ℕ
room f = f.ceiling - (f.lows + f.fewest)

abbrev pub more : Frame → ℕ
more f = if nat_lt f.fewest f.most then room f else 0

-- the widths up to which every count keeps its bounds
abbrev pub certain_kept : Frame → ℕ
certain_kept f = min (room f) (f.at - f.floor)

abbrev pub enter_kept : Frame → ℕ
enter_kept f = if nat_lt 0 f.fewest && nat_le f.floor ((more f + 1) + f.under) then room f + 1 else more f

abbrev pub leave_kept : Frame → ℕ
leave_kept f = if nat_lt f.fewest f.optional then f.over - f.floor else 0

abbrev pub widths_kept : Frame → Widths
widths_kept f = record { certain = certain_kept f; optional = min (enter_kept f) (leave_kept f) }

-- up to the widths w they do
pub record Kept (f : Frame) (w : Widths) : Type 0 where
  pub certain : (r : Row) → 0 < r.low → r.high ≤ r.low + w.certain → r ≡ count_of f r
  pub optional : (r : Row) → r.low ≤ 0 → r.high ≤ r.low + w.optional → r ≡ count_of f r
  pub light : w.certain ≤ 65536
  pub room : w.optional ≤ 65536
