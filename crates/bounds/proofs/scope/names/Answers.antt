use Rattle.std.proofs.Common.{rules, ◌∙◌, ap, sym, ℕ, ◌==◌, drop, length, length-drop, slice_index, arith}
use Rattle.std.proofs.lemmas.List.{get_or-drop}
use Rattle.std.proofs.lemmas.Iterator.{YieldsList-from_range}
use Rattle.std.proofs.lemmas.Iterator.Search.{any_from_yields_List}
use Rattle.bounds.proofs.Named.{names_by_index}
use Rattle.bounds.proofs.scope.names.Goals as goal

pub returns : goal.returns
returns g c =
    let cs = g.S.Scope.scope c.args.named.now in
    let test = λ (i : ℕ). slice_index cs i == c.args.cell in
    any_from_yields_List test _ _ _ c.any.ensures.ran (YieldsList-from_range c.args.from c.indices.result.end (length (drop c.args.from cs)) (λ j. record { start = c.indices.ensures.0 j; end = c.indices.result.end }) (omega (arith, length-drop {A = ℕ}))) (λ x b q k. search rules)
    ∙ names_by_index (drop c.args.from cs) c.args.cell test c.args.from (λ i l. ap (λ (x : ℕ). x == c.args.cell) (sym (get_or-drop c.args.from cs i 0)))
