-- What a settle does leaves the widest board that no rule narrows.
use Rattle.std.proofs.Common.{◌≡◌, ℕ, Bool, true, false, sym, refl, subst}
use Rattle.bounds.specs.Boards.{sound}
use Rattle.bounds.specs.Laws.{Meaning, FiveLaws}
use Rattle.settling.specs.declared.settled.Settled.{Settled}
use Rattle.settling.specs.declared.settled.Settled.TheVariants as settle
use Rattle.board.specs.Calls.{State, board, Does, Empties}
use Rattle.board.specs.Held.{event_of_settle}
use Rattle.board.proofs.Widest.{WidestIn, widest_void, widest_settled, widest_emptied}

emptied_widest : (m : Meaning) → FiveLaws m → (s t : State) (n : ℕ) → sound s.rows ≡ true → (v : Bool) → s.is_void ≡ v → Empties m s n t v → WidestIn m s (board t)
emptied_widest m laws s t n ok true is (_, same) = subst (λ x. WidestIn m s (board x)) (sym same) (widest_void m s is)
emptied_widest m laws s t n ok false is (k, r, _, applied, low, voids, then) =
    subst (λ x. WidestIn m s (board x)) (sym then) (widest_emptied m s laws is ok applied r low voids)

pub settled_widest : (m : Meaning) → FiveLaws m → (s t : State) (r : Settled) → sound s.rows ≡ true → Does m s (event_of_settle r) t → WidestIn m s (board t)
settled_widest m laws s t (settle.Settled n) ok (full, applied, still, then) =
    subst (λ x. WidestIn m s (board x)) (sym then) (widest_settled m s laws full ok applied still)
settled_widest m laws s t (settle.Void n) ok d = emptied_widest m laws s t n ok s.is_void refl d
