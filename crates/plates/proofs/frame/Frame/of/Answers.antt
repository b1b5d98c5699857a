use Rattle.std.proofs.Common.{refl, sym, ◌∙◌, arith}
use Rattle.plates.proofs.Frames.{none_found, fewest_is, framed, spanned, Room, room_is}
use Rattle.plates.proofs.Keeping.{wide_is}
use Rattle.plates.proofs.frame.Frame.of.Goals as goal
use Rattle.plates.proofs.frame.Frame.of.Goals.{After-fewest}
use Rattle.plates.proofs.frame.Frame.of.Given.{Over}

room : (g : Over) (c : After-fewest g) → Room c.add_up-gap.result.0 c.args.slots c.args.variety c.in_ok-most.most
room g c = room_is _ _ _ _ (sym c.most.ensures ∙ c.in_ok-most.was)

pub returns-in_err-fewest : goal.returns-in_err-fewest
returns-in_err-fewest g c =
    let s = c.add_up-gap in
    let after = (goal.at.returns-in_err-fewest g c).After-fewest in
    let f = rw c.in_err-fewest.was at after.fewest.ensures in let o = room g after in
    rw c.from_residual-in_err-fewest.ensures (record {
      widths = tt;
      framed = none_found c.args.slots c.args.variety c.args.counts.now s.new.top s.result.0 s.ensures.sums s.ensures.tops
          c.saturating_sub-least.result c.in_ok-most.most (omega arith) (omega arith) (λ j p q. omega (arith, f j p q));
    })

pub between-requires : goal.between-requires
between-requires g c =
    let s = c.add_up-gap in
    let after = (goal.at.between-requires g c).After-fewest in
    let f = rw c.in_ok-fewest.was at after.fewest.ensures in let o = room g after in
    spanned c.args.slots c.args.variety c.args.counts.now s.new.top s.result.0 s.ensures.sums s.ensures.tops
    c.in_ok-most.most c.in_ok-fewest.fewest (omega arith) (omega arith) (omega arith) (omega arith) (omega arith) (omega arith) (omega arith) (omega arith)

pub returns : goal.returns
returns h c =
    let s = c.add_up-gap in
    let after = (goal.at.returns h c).After-fewest in
    let f = rw c.in_ok-fewest.was at after.fewest.ensures in let o = room h after in
    let g = framed c.args.slots c.args.variety c.args.counts.now s.new.top s.result.0 s.ensures.sums s.ensures.tops
    c.args.slots.low c.args.slots.high c.in_ok-most.most c.in_ok-fewest.fewest _ _ refl refl refl (omega arith) (omega arith) (omega arith) (omega arith)
    (fewest_is c.args.slots c.args.variety c.args.counts.now s.new.top s.result.0 s.ensures.sums s.ensures.tops c.saturating_sub-least.result c.in_ok-most.most (omega arith) (omega arith)
    c.in_ok-fewest.fewest (omega arith) (omega arith) (omega arith) (λ j p q. omega (arith, f.3 j p q)))
    (omega arith) refl in
    record { framed = (g.0, c.between.ensures ∙ g.1); widths = wide_is c.args.counts.now _ _ s.ensures.gap s.ensures.sums.optionals s.ensures.tops c.min.ensures }
