-- The rule at a place in two families side by side.
use Rattle.std.specs.Prelude.{Option, Some, None}
use Rattle.bounds.specs.Laws.{Meaning, Rule, idle}
use Rattle.rule_families.specs.declared.beside.Place.{Place}
use Rattle.rule_families.specs.declared.beside.Place.TheVariants.{First, Second}

abbrev pub placed : Meaning → Meaning → Option Place → Rule
placed a b (Some (First r)) = a.rule r
placed a b (Some (Second r)) = b.rule r
placed a b None = idle
