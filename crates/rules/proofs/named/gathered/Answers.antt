use Rattle.std.proofs.Common.{length, sym, arith}
use Rattle.rules.proofs.Gathers.{cell_missing}
use Rattle.bounds.proofs.Scopes.{at_fits}
use Rattle.rules.proofs.named.gathered.Goals as goal

pub returns-in_default-clause-whole : goal.returns-in_default-clause-whole
returns-in_default-clause-whole g c = let seen = c.in_default.ensures.lookup in sym (cell_missing (g.R.Scope.scope c.args.rule.now) (length c.args.rows.now) c.loop-i.i (omega arith) (omega (arith, c.cell.ensures, seen.3)))

pub returns-clause-whole : goal.returns-clause-whole
returns-clause-whole g c = sym (at_fits _ _ (λ i l. (c.loop-i.invariant i (omega arith)).0))
