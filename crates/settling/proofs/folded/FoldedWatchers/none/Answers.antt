use Rattle.std.proofs.Common.{◌%◌, arith}
use Rattle.settling.proofs.Folds.{none_on}
use Rattle.settling.proofs.folded.FoldedWatchers.none.Goals as goal

pub returns : goal.returns
returns g c n l =
    let few = (g.F.Family.lawful c.args.family.now).few in
    record {
      room = omega (arith, c.div_ceil.ensures, c.size.ensures);
      few = omega (arith, c.div_ceil.ensures, c.size.ensures, few);
      cells = l;
      rules = omega (arith, c.div_ceil.ensures, c.size.ensures, c.requires.rules, c.requires.words);
      room_cells = c.requires.room.0;
      room_rules = c.requires.room.1;
      listed = λ d q l o. absurd (omega arith);
      cell_only = λ d k few on. absurd (none_on g.row.CELLS d k on);
      rule_only = λ q p few on. absurd (none_on g.row.RULES _ (q % 64) on);
      reach = λ q l. absurd (omega arith);
      known = c.idempotent_rules.ensures;
    }
