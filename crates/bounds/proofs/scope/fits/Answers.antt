use Rattle.std.proofs.Common.{rules, ◌∙◌, ℕ, length, nat_lt, slice_index, arith}
use Rattle.std.proofs.lemmas.Iterator.{YieldsList-from_range}
use Rattle.std.proofs.lemmas.Iterator.Search.{all_from_yields_List}
use Rattle.bounds.proofs.Named.{fits_by_index}
use Rattle.bounds.proofs.scope.fits.Goals as goal

pub returns : goal.returns
returns g c =
    let cs = g.S.Scope.scope c.args.named.now in
    let test = λ (i : ℕ). nat_lt (slice_index cs i) c.args.cells in
    all_from_yields_List test _ _ _ c.all.ensures.ran (YieldsList-from_range 0 c.indices.result.end (length cs) (λ j. record { start = c.indices.ensures.0 j; end = c.indices.result.end }) (omega arith)) (λ x b q k. search rules)
    ∙ fits_by_index cs c.args.cells test 0 (λ i l. search rules)
