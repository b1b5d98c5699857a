-- How many cells a triple's record names, by its kind.
use Rattle.std.proofs.Common.{rules, ◌≡◌, length, Some, None}
use Rattle.records.specs.Records.{Triple}
use Rattle.records.specs.Forms.{triple_names}
use Rattle.records.specs.Kinds.{triple_kind, tied}
use Rattle.records.specs.declared.triples.TripleKind.{TripleKind}
use Rattle.records.specs.declared.triples.TripleKind.TheVariants.{Union, Intersection, UnionPlus, Subset}

pub names_tied : (t : Triple) (k : TripleKind) → triple_kind t.kind ≡ Some k → tied k ≡ length (triple_names t)
names_tied t Union e = grind (rules, e)
names_tied t Intersection e = grind (rules, e)
names_tied t UnionPlus e = grind (rules, e)
names_tied t Subset e = grind (rules, e)

pub names_three : (t : Triple) → triple_kind t.kind ≡ None → 3 ≡ length (triple_names t)
names_three t e = grind (rules, e)
