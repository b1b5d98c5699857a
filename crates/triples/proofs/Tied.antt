-- How many cells a triple names.
use Rattle.std.proofs.Common.{◌≡◌, ℕ, length, refl}
use Rattle.records.specs.Kinds.{tied}
use Rattle.records.specs.declared.triples.TripleKind.{TripleKind}
use Rattle.records.specs.declared.triples.TripleKind.TheVariants.{Union, Intersection, UnionPlus, Subset}
use Rattle.triples.specs.Triples.{scope}

pub scope_tied : (k : TripleKind) (a b c : ℕ) → tied k ≡ length (scope k a b c)
scope_tied Union a b c = refl
scope_tied Intersection a b c = refl
scope_tied UnionPlus a b c = refl
scope_tied Subset a b c = refl
