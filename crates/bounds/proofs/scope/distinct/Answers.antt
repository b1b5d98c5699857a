use Rattle.std.proofs.Common.{rules, ◌≡◌, ◌∙◌, ap₂, ℕ, suc, ◌+◌, not, drop, length, slice_index, arith}
use Rattle.std.proofs.lemmas.Iterator.{YieldsList-from_range}
use Rattle.std.proofs.lemmas.Iterator.Search.{all_from_yields_List}
use Rattle.bounds.specs.Scoped.{names}
use Rattle.bounds.proofs.Named.{distinct_by_index}
use Rattle.bounds.proofs.scope.distinct.Goals as goal

pub returns : goal.returns
returns g c =
    let cs = g.S.Scope.scope c.args.named.now in
    let test = λ (i : ℕ). not (names (drop (i + 1) cs) (slice_index cs i)) in
    all_from_yields_List test _ _ _ c.all.ensures.ran (YieldsList-from_range 0 c.indices.result.end (length cs) (λ j. record { start = c.indices.ensures.0 j; end = c.indices.result.end }) (omega arith)) (λ x b q k. search rules)
    ∙ distinct_by_index cs test 0 (λ i l. let s : (0 + i) + 1 ≡ suc i = omega arith in let z : 0 + i ≡ i = omega arith in ap₂ (λ k m. not (names (drop m cs) (slice_index cs k))) z s)
