-- A linear constraint: the sum of weight times count over its cells lies from a floor to a ceiling.
use Rattle.std.specs.Prelude.{ℕ, ◌+◌, ◌-◌, ◌*◌, ◌/◌, min, max, Bool, cond, ◌&&◌, ◌||◌, List, [], ◌∷◌, nat_le, nat_lt}
use Rattle.bounds.specs.declared.row.Row.{Row}
use Rattle.bounds.specs.Boards.{Board, void, cells, sound, lows, highs}
use Rattle.bounds.specs.Scoped.{Scoped}
use Rattle.linear.specs.declared.limits.Limits.{Limits}

-- the sum of weight times count
abbrev pub weighed : List ℕ → List ℕ → ℕ
weighed [] ns = 0
weighed (w ∷ ws) [] = 0
weighed (w ∷ ws) (n ∷ ns) = w * n + weighed ws ns

-- n / w rounded up
abbrev pub over : ℕ → ℕ → ℕ
over n w = (n + (w - 1)) / w

-- the floor and the ceiling, and what the cells weigh at their lows and at their highs, all as before the rule
abbrev pub limits : List ℕ → ℕ → ℕ → List Row → Limits
limits ws floor ceiling a = record { floor = floor; ceiling = ceiling; least = weighed ws (lows a); most = weighed ws (highs a) }

-- The bounds left to a cell of weight w: the others weigh at least `least - w * low` and at most `most - w * high`.
-- A difference below zero is 0 here; rounded up it would be at most 0, and the low is the greater of the two bounds.
abbrev pub bounded : Limits → ℕ → Row → Row
bounded l w r = record {
  low = max r.low (over (l.floor - (l.most - w * r.high)) w);
  high = min r.high ((l.ceiling - (l.least - w * r.low)) / w);
}

abbrev pub all_bounded : Limits → List ℕ → List Row → List Row
all_bounded l [] rs = []
all_bounded l (w ∷ ws) [] = []
all_bounded l (w ∷ ws) (r ∷ rs) = bounded l w r ∷ all_bounded l ws rs

-- rows, one of which may be empty, as a board
abbrev pub board_of : List Row → Board
board_of g = cond (sound g) (cells g) void

-- the narrowing: void if the lows weigh too much or the highs too little
abbrev pub bounded_sum : List ℕ → ℕ → ℕ → List Row → Board
bounded_sum ws floor ceiling a =
    let l = limits ws floor ceiling a in
    cond (nat_lt l.ceiling l.least || nat_lt l.most l.floor) void (board_of (all_bounded l ws a))

abbrev pub sum_within : List ℕ → ℕ → ℕ → List ℕ → Bool
sum_within ws floor ceiling p = nat_le floor (weighed ws p) && nat_le (weighed ws p) ceiling

abbrev pub linear : (scope weights : List ℕ) → (floor ceiling : ℕ) → Scoped
linear scope ws floor ceiling = record { scope = scope; relation = sum_within ws floor ceiling; narrowing = bounded_sum ws floor ceiling }
