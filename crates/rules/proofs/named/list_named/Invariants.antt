use Rattle.rules.proofs.Listing.{ListedTo}
use Rattle.rules.proofs.named.list_named.Given as goal

abbrev pub invariant-loop-i : goal.invariant-loop-i
invariant-loop-i g l = ListedTo (g.R.Scope.scope l.rule) l.i l.room
