use Rattle.std.proofs.Common.{arith}
use Rattle.totals.proofs.Scope.{named_few, named_inside}
use Rattle.totals.proofs.total.rule.TotalScope.cell.Goals as goal

pub overflow_mul-offset : goal.overflow_mul-offset
overflow_mul-offset c = omega (arith, named_few c.args.self.now c.args.i c.requires)

pub overflow_add-offset : goal.overflow_add-offset
overflow_add-offset c = omega (arith, named_few c.args.self.now c.args.i c.requires)

pub u16_inside-requires : goal.u16_inside-requires
u16_inside-requires c = omega (arith, c.args.self.now.ends c.if-self.true, named_inside c.args.self.now c.args.i c.requires)
