-- A rule, or none.
use Rattle.std.specs.Prelude.{true, [], Option, Some, None}
use Rattle.bounds.specs.Scoped.{Scoped, ScopedLaws, exact_on}
use Rattle.bounds.proofs.Lifted.{exact_on_laws}

module _ {R : Type 0} (scoped : R → Scoped) where
  -- where there is none, the rule has no cells and asks nothing
  abbrev pub or_none : Option R → Scoped
  or_none (Some r) = scoped r
  or_none None = exact_on [] (λ _. true)

  pub none_laws : ((r : R) → ScopedLaws (scoped r)) → (o : Option R) → ScopedLaws (or_none o)
  none_laws laws (Some r) = laws r
  none_laws laws None = exact_on_laws [] (λ _. true)
