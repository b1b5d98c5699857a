use Rattle.std.proofs.Common.{◌≡◌, ◌+◌, length, reverse, arith, rules, tests}
use Rattle.plates.specs.Work.{gap}
use Rattle.plates.proofs.Adding.{Added, sums, concave_is, one_more, gap_certain, gap_other, certain_front, optional_same, absent_same}
use Rattle.plates.proofs.frame.add_up.Goals as goal

pub loop-low-preserved-then-low-gt0 : goal.loop-low-preserved-then-low-gt0
loop-low-preserved-then-low-gt0 c =
    let l = c.loop-low in let s = sums l.certain l.optional l.lows l.base in (
      one_more (λ cs n. Added cs l.top (sums (l.certain + 1) l.optional (l.lows + c.from-lows.result) (l.base + c.from-base.result)) n) l.yielded c.in-Some.field-0
          (certain_front (reverse l.yielded) l.top s (length l.yielded) l.invariant.0 _ _ _ _ c.from-lows.ensures c.from-base.ensures (omega arith) (omega arith) (omega arith)),
      one_more (λ cs n. c.max-gap.result ≡ gap cs) l.yielded c.in-Some.field-0 (gap_certain _ _ (reverse l.yielded) l.gap l.invariant.1 c.max-gap.result (omega arith) (search (rules, tests))),
    )

pub loop-low-preserved-then-high-gt0 : goal.loop-low-preserved-then-high-gt0
loop-low-preserved-then-high-gt0 c =
    let l = c.loop-low in let s = sums l.certain l.optional l.lows l.base in (
      one_more (λ cs n. Added cs c.admit.new.top (sums l.certain (l.optional + 1) l.lows l.base) n) l.yielded c.in-Some.field-0
          (optional_same (reverse l.yielded) l.top s (length l.yielded) l.invariant.0 _ _ _ (omega arith) (omega arith) (omega arith) c.admit.ensures),
      one_more (λ cs n. l.gap ≡ gap cs) l.yielded c.in-Some.field-0 (gap_other _ _ (reverse l.yielded) l.gap l.invariant.1 (omega arith)),
    )

pub loop-low-preserved : goal.loop-low-preserved
loop-low-preserved c =
    let l = c.loop-low in let s = sums l.certain l.optional l.lows l.base in (
      one_more (λ cs n. Added cs l.top (sums l.certain l.optional l.lows l.base) n) l.yielded c.in-Some.field-0
          (absent_same (reverse l.yielded) l.top s (length l.yielded) l.invariant.0 _ _ (omega arith) (omega arith)),
      one_more (λ cs n. l.gap ≡ gap cs) l.yielded c.in-Some.field-0 (gap_other _ _ (reverse l.yielded) l.gap l.invariant.1 (omega arith)),
    )

pub admit-requires-clause-concave : goal.admit-requires-clause-concave
admit-requires-clause-concave c = let l = c.loop-low in concave_is (reverse l.yielded) l.top (sums l.certain l.optional l.lows l.base) l.invariant.0.1
