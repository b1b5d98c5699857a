-- Stated of what this crate and those below define, and used by none of its proofs.
use Rattle.std.proofs.Common.{◌≡◌, ℕ, ◌+◌, ◌<◌, min, max, Bool, true, false, cond, Option, List, length, sym, ap, ◌∙◌, inl, inr, arith}
use Rattle.std.proofs.lemmas.Bool.{cases_Bool}
use Rattle.bounds.specs.declared.row.Row.{Row}
use Rattle.bounds.specs.Boards.{Board, void, cells, sound}
use Rattle.bounds.specs.Cells.{common}
use Rattle.bounds.specs.Exact.{exact}
use Rattle.bounds.specs.Scoped.{ScopedLaws, distinct}
use Rattle.bounds.proofs.Places.{low_at, high_at, sound_at}
use Rattle.bounds.proofs.Lifted.{lifted_exact, exact_on_laws}
use Rattle.rules.specs.Numbers.{or_none, none_laws}
use Rattle.rules.proofs.Rows.{three, Cut}
use Rattle.triples.specs.Triples.{relation, scope, rule_of, read, triple_rule, ExactOnBoards}
use Rattle.triples.specs.declared.triple.Triple.{Triple}
use Rattle.records.specs.declared.triples.TripleKind.TheVariants.{Union, Intersection, UnionPlus}
use Rattle.triples.proofs.Frames.{exact_three}
use Rattle.triples.proofs.Closed.{UnionRows, IntersectionRows, PlusRows, union_narrowed, intersection_narrowed, plus_narrowed}

-- the laws of a triple, of a record that may be none, and of what stands at a place of a file
rule_laws : (o : Option Triple) → ScopedLaws (or_none rule_of o)
rule_laws = none_laws rule_of (λ t. exact_on_laws (scope t.kind t.a t.b t.c) (relation t.kind))

triple_laws : (f : List ℕ) (i : ℕ) → ScopedLaws (triple_rule f i)
triple_laws f i = rule_laws (read f i)

pub at_unsound : (a : List Row) (i : ℕ) → i < length a → high_at a i < low_at a i → sound a ≡ false
at_unsound a i l h = elim (cases_Bool (sound a)) [ inl s ↦ absurd (omega (arith, sound_at a s i l)) | inr n ↦ n ]

pub cut_is : (g a : Row) (l h : ℕ) → g ≡ common a l h → Cut g a l h
cut_is g a l h e = (ap (λ r. r.low) e, ap (λ r. r.high) e)

-- an answer that is the closed form of the rows one by one is their exact narrowing
pub exact_array : (meets : List ℕ → Bool) {a g : List Row} {b d : Board} → a ≡ g → b ≡ d → exact meets g ≡ d → b ≡ exact meets a
exact_array meets e answer closed = answer ∙ sym (ap (exact meets) e ∙ closed)

-- a triple that names no cell twice is exact on every board
pub exact_since : (t : Triple) (r : Bool) → r ≡ distinct (rule_of t).scope → r ≡ true → ExactOnBoards (rule_of t)
exact_since t r e h a s = lifted_exact (scope t.kind t.a t.b t.c) (relation t.kind) a (sym e ∙ h) s

-- the three kinds over three rows one by one
module _ (a b c g h k : Row) where
  abbrev Exact : (List ℕ → Bool) → Type 0
  Exact meets = exact meets (three a b c) ≡ cond (sound (three g h k)) (cells (three g h k)) void

  pub union_exact : (x y : ℕ) → UnionRows a b c g h k x y → Exact (relation Union)
  union_exact x y u = exact_three max a b c g h k (union_narrowed a b c g h k x y u)

  pub intersection_exact : (x y : ℕ) → IntersectionRows a b c g h k x y → Exact (relation Intersection)
  intersection_exact x y u = exact_three min a b c g h k (intersection_narrowed a b c g h k x y u)

  pub plus_exact : (top : ℕ) → PlusRows a b c g h k top → Exact (relation UnionPlus)
  plus_exact top u = exact_three ◌+◌ a b c g h k (plus_narrowed a b c g h k top u)
