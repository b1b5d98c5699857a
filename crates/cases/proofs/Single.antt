-- The boards of one rule.
use Rattle.std.proofs.Common.{refl, arith}
use Rattle.bounds.specs.Boards.{void, cells}
use Rattle.settling.specs.Plans.{Applies, stay, more}
use Rattle.cases.specs.Worked as worked
use Rattle.plates.specs.Worked as plates
use Rattle.plates.specs.Worked.{two_designs, three_designs}
use Rattle.cases.specs.Worked.{plate, triple, both, OneAlone, AnyTwo, TooFew, Union, UnionPlus, ThreeByTwos}
use Rattle.cases.proofs.Lowest.{lowest_first, still_alone, settles_once}
use Rattle.cases.proofs.Earlier.{first_of_any_two}

pub one_alone : OneAlone
one_alone = record {
  narrowed = refl;
  settles = settles_once (plate three_designs) plates.one_alone plates.others_out refl refl (omega arith) refl refl refl;
}

pub any_two : AnyTwo
any_two = record {
  quiet = refl;
  settles = (stay, still_alone (plate three_designs) plates.two_of_three refl refl, refl, refl);
  plan = first_of_any_two;
}

pub too_few : TooFew
too_few = record {
  narrowed = refl;
  settles = ((0, 0, refl, stay, lowest_first (plate two_designs) plates.too_few void (omega arith) refl (omega arith), refl), refl, refl);
}

pub union : Union
union = record {
  narrowed = refl;
  settles = settles_once (triple 1) worked.parts_and_union worked.united refl refl (omega arith) refl refl refl;
}

pub union_plus : UnionPlus
union_plus = record {
  narrowed = refl;
  settles = settles_once (triple 3) worked.parts_and_sum worked.summed refl refl (omega arith) refl refl refl;
}

closing_in : Applies worked.three_by_twos (both 0 4) (both 1 1) 2
closing_in =
    let one = more {b = both 0 4} {c = both 0 1} stay 0 (lowest_first worked.three_by_twos (both 0 4) (cells (both 0 1)) (omega arith) refl (omega arith)) refl in
    more {b = both 0 1} {c = both 1 1} one 0 (lowest_first worked.three_by_twos (both 0 1) (cells (both 1 1)) (omega arith) refl (omega arith)) refl

pub three_by_twos : ThreeByTwos
three_by_twos = record {
  first = refl;
  second = refl;
  third = refl;
  settles = ((2, 0, refl, closing_in, lowest_first worked.three_by_twos (both 1 1) void (omega arith) refl (omega arith), refl), refl, refl);
}
