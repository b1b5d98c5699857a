-- What an answer is, where the narrowing is known.
use Rattle.std.proofs.Common.{◌≡◌, ◌≢◌, List, sym, refl, ◌∙◌}
use Rattle.bounds.specs.declared.row.Row.{Row}
use Rattle.bounds.specs.Boards.{Board, void, cells}
use Rattle.bounds.proofs.Rows.{cells_void, cells_same}
use Rattle.rule_families.specs.declared.change.Change.{Change}
use Rattle.rule_families.specs.declared.change.Change.TheVariants.{Quiet, Narrowed, Void}
use Rattle.rule_families.specs.Narrows.{Narrows}

module _ (f : List Row → Board) (a x : List Row) where
  pub narrowed_to : (c : Change) (g : List Row) → f a ≡ cells g → g ≢ a → Narrows f a x c → (c ≡ Narrowed) × (x ≡ g)
  narrowed_to Quiet g e d n = absurd (d (cells_same g a (sym e ∙ n.0)))
  narrowed_to Narrowed g e d n = (refl, cells_same x g (sym n.0 ∙ e))
  narrowed_to Void g e d n = absurd (cells_void g (sym e ∙ n.0))

  pub quiet_at : (c : Change) → f a ≡ cells a → Narrows f a x c → (c ≡ Quiet) × (x ≡ a)
  quiet_at Quiet e n = (refl, n.1)
  quiet_at Narrowed e n = absurd (n.1 (cells_same x a (sym n.0 ∙ e)))
  quiet_at Void e n = absurd (cells_void a (sym e ∙ n.0))

  pub void_at : (c : Change) → f a ≡ void → Narrows f a x c → (c ≡ Void) × (x ≡ a)
  void_at Quiet e n = absurd (cells_void a (sym n.0 ∙ e))
  void_at Narrowed e n = absurd (cells_void x (sym n.0 ∙ e))
  void_at Void e n = (refl, n.1)
