use Rattle.std.proofs.Common.{ap, length, ◌∙◌}
use Rattle.bounds.specs.Boards.{none_row}
use Rattle.bounds.proofs.Scopes.{length_gather}
use Rattle.rules.proofs.named.written_back.Goals as goal

pub stand-requires-clause-own : goal.stand-requires-clause-own
stand-requires-clause-own g c = ap length c.requires.before ∙ length_gather none_row _ _
