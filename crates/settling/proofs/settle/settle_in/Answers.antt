use Rattle.std.proofs.Common.{arith, rules}
use Rattle.settling.proofs.settle.settle_in.Goals as goal

pub none-watchers-requires : goal.none-watchers-requires
none-watchers-requires g c = (omega arith, (c.requires.rules, (c.requires.words, c.requires.room)))

pub list_all-requires : goal.list_all-requires
list_all-requires g c = (omega arith, (c.requires.cells, (c.requires.rules, (c.requires.words, c.none-watchers.ensures _ c.requires.cells))))

pub whole_as_front-settle_from : goal.whole_as_front-settle_from
whole_as_front-settle_from g c = (c.requires.cells, omega arith)

pub settle_from-requires : goal.settle_from-requires
settle_from-requires g c = (omega arith, (c.requires.sound, (c.requires.few, (c.list_all.ensures, (c.requires.asleep, search rules)))))
