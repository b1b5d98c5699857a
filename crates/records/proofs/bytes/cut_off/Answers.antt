use Rattle.std.proofs.Common.{rules, ◌+◌, slice_index, arith}
use Rattle.std.proofs.lemmas.List.{get_or-drop}
use Rattle.records.proofs.Numbers.{made_each}
use Rattle.records.proofs.bytes.cut_off.Goals as goal

pub returns-clause-each : goal.returns-clause-each
returns-clause-each g c i h =
    made_each _ _ (λ j. slice_index c.args.file.now (c.args.place + j)) c.from_fn.result 0 g.row.N (λ j y q k. search (rules, get_or-drop))
    c.from_fn.ensures.items.each i i (omega arith) h
