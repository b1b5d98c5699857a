-- Triples: what each kind asks of the counts of its cells, and the rule that a record of the file is.
use Rattle.std.specs.Prelude.{◌≡◌, ℕ, ◌+◌, min, max, Bool, true, List, [], ◌∷◌, length, Some, None, Option, ◌==◌, nat_le, slice_index}
use Rattle.std.proofs.Common.{◌≤◌, lit≤}
use Rattle.bounds.specs.declared.row.Row.{Row}
use Rattle.bounds.specs.Boards.{sound}
use Rattle.bounds.specs.Exact.{exact}
use Rattle.bounds.specs.Laws.{Meaning}
use Rattle.bounds.specs.Scoped.{Scoped, ScopedLaws, on_board, exact_on}
use Rattle.bounds.specs.Listed.{listed}
use Rattle.bounds.proofs.Lifted.{exact_on_laws}
use Rattle.rules.specs.Numbers.{or_none, none_laws}
use Rattle.records.specs.Kinds.{triple_kind}
use Rattle.records.specs.Records.{triple_at}
use Rattle.records.specs.declared.triples.TripleKind.{TripleKind}
use Rattle.records.specs.declared.triples.TripleKind.TheVariants.{Union, Intersection, UnionPlus, Subset}
use Rattle.triples.specs.declared.triple.Triple.{Triple}

-- the third count is what the operation makes of the first two
abbrev pub makes : (ℕ → ℕ → ℕ) → List ℕ → Bool
makes op p = slice_index p 2 == op (slice_index p 0) (slice_index p 1)

abbrev pub relation : TripleKind → List ℕ → Bool
relation Union p = makes max p
relation Intersection p = makes min p
relation UnionPlus p = makes ◌+◌ p
relation Subset p = nat_le (slice_index p 0) (slice_index p 1)

-- the cells a, b and c, of which a subset has two
abbrev pub scope : TripleKind → ℕ → ℕ → ℕ → List ℕ
scope Union a b c = a ∷ (b ∷ (c ∷ []))
scope Intersection a b c = a ∷ (b ∷ (c ∷ []))
scope UnionPlus a b c = a ∷ (b ∷ (c ∷ []))
scope Subset a b c = a ∷ (b ∷ [])

abbrev pub rule_of : Triple → Scoped
rule_of t = exact_on (scope t.kind t.a t.b t.c) (relation t.kind)

abbrev pub with_kind : Option TripleKind → ℕ → ℕ → ℕ → Option Triple
with_kind (Some k) a b c = Some (record { kind = k; a = a; b = b; c = c })
with_kind None a b c = None

-- the triple that stands at a place of the file
abbrev pub read : List ℕ → ℕ → Option Triple
read f i = let t = triple_at f i in with_kind (triple_kind t.kind) t.a t.b t.c

pub few_named : (k : TripleKind) (a b c : ℕ) → length (scope k a b c) ≤ 66
few_named Union a b c = lit≤ tt
few_named Intersection a b c = lit≤ tt
few_named UnionPlus a b c = lit≤ tt
few_named Subset a b c = lit≤ tt

-- where none stands, the rule has no cells and asks nothing
abbrev pub triple_rule : List ℕ → ℕ → Scoped
triple_rule f i = or_none rule_of (read f i)

pub triple_laws : (f : List ℕ) (i : ℕ) → ScopedLaws (triple_rule f i)
triple_laws f i = none_laws rule_of (λ t. exact_on_laws (scope t.kind t.a t.b t.c) (relation t.kind)) (read f i)

abbrev pub triples : List ℕ → List ℕ → Meaning
triples file places = listed triple_rule file places

-- on every board the narrowing is the hull of the board's fillings that meet the rule
abbrev pub ExactOnBoards : Scoped → Type 0
ExactOnBoards s = (a : List Row) → sound a ≡ true → (on_board s).narrowed a ≡ exact (on_board s).meets a
