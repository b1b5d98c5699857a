use Rattle.std.proofs.Common.{rules, refl, ap, ◌∙◌, ℕ, length, map, get_or, zero-add, arith}
use Rattle.std.proofs.lemmas.Iterator.{YieldsList-from_range}
use Rattle.std.proofs.lemmas.Iterator.Search.{all_from_yields_List}
use Rattle.records.specs.Records.{Term, total_at}
use Rattle.records.specs.Forms.{between}
use Rattle.records.proofs.Fields.{length_terms, length_cells, weighted_by_index}
use Rattle.records.proofs.totals.weights.cut_weights_keep.Goals as goal

pub returns : goal.returns
returns c =
    let ts = (total_at c.args.at.bytes.now c.args.at.place).terms in
    let test = λ (j : ℕ). between 1 1000000 (get_or (map (λ (t : Term). t.weight) ts) j 0) in
    all_from_yields_List test _ _ _ c.all.ensures.ran
    (YieldsList-from_range 0 c.arity.result (length ts) refl (omega (arith, c.arity.ensures, length_terms, length_cells))) (λ x t q k. search rules)
    ∙ weighted_by_index ts test 0 (λ j l. ap test (zero-add j))
