-- Stated of what this crate defines, and used by none of its proofs: the slots of the trial memory, memory that comes
-- back in a Vec, and settling from the rows that lie in memory.
use Rattle.std.proofs.Common.{◌≡◌, ℕ, ◌+◌, ◌*◌, ◌<◌, ◌≤◌, true, false, cond, List, ◌++◌, length, take, drop, vec_items, vec_len, Vec, sym, refl, ap, ◌∙◌, subst, zero-add, take-add, arith}
use Rattle.std.specs.Vec.{with_items}
use Rattle.std.specs.declared.alloc.Global.{Global}
use Rattle.std.proofs.lemmas.List.{length-take-le, length-drop, with_items_is}
use Rattle.std.proofs.lemmas.List.Folds.{list_all-append}
use Rattle.std.proofs.lemmas.Bool.{and_from}
use Rattle.bounds.specs.declared.row.Row.{Row}
use Rattle.bounds.specs.Boards.{void, cells, sound}
use Rattle.bounds.specs.Laws.{Meaning, FiveLaws}
use Rattle.board.specs.declared.control.Control.{Control}
use Rattle.settling.specs.declared.settled.Settled.{Settled}
use Rattle.settling.specs.declared.settled.Settled.TheVariants as settle
use Rattle.board.specs.Calls.{board, settled, emptied, Does, Empties}
use Rattle.board.specs.Held.{state_of, slot, Pasted}
use Rattle.settling.specs.Settles.{Settles}
use Rattle.board.proofs.Slots.{room_for}
use Rattle.board.proofs.Sounds.{sound_split}
use Rattle.board.proofs.Widest.{WidestIn, widest_settled, widest_emptied}

sound_take : (n : ℕ) (a : List Row) → sound a ≡ true → sound (take n a) ≡ true
sound_take n a s = (sound_split n a s).0

sound_drop : (n : ℕ) (a : List Row) → sound a ≡ true → sound (drop n a) ≡ true
sound_drop n a s = (sound_split n a s).1

sound_append : (a b : List Row) → sound a ≡ true → sound b ≡ true → sound (a ++ b) ≡ true
sound_append a b s t = list_all-append _ a b ∙ and_from _ _ s t

sound_more : (m k : ℕ) (a : List Row) → sound (take m a) ≡ true → sound (take k (drop m a)) ≡ true → sound (take (m + k) a) ≡ true
sound_more m k a s t = rw (take-add m k a) (sound_append (take m a) (take k (drop m a)) s t)

module _ (n : ℕ) where
  pub slot_length : (d m : ℕ) (a : List Row) → d < m → m * n ≤ length a → length (slot n d a) ≡ n
  slot_length d m a h l = length-take-le n (drop (d * n) a) (rw (length-drop (d * n) a) (omega (arith, room_for n d m h)))

  -- what a paste of n rows at the start leaves
  pub from_start : (rows xs ys : List Row) → length rows ≡ n → Pasted 0 rows xs ys → (take n ys ≡ rows) × (drop n ys ≡ drop n xs)
  from_start rows xs ys l p = (
    ap (λ m. take m ys) (sym l) ∙ p.middle,
    subst (λ m. drop m ys ≡ drop m xs) (zero-add (length rows) ∙ l) p.after,
  )

-- what a paste into a slice of a Vec leaves in the Vec
pub pasted_into : (v : Vec Row Global) (p : ℕ) (from rows xs ws : List Row) → from ≡ rows → xs ≡ vec_items v → length ws ≡ vec_len v → Pasted p from xs ws
    → Pasted p rows (vec_items v) (vec_items (with_items v ws))
pasted_into v p from rows xs ws e f l h = rw (with_items_is v ws l, ← e, ← f) h

abbrev pub voided : Control → Control
voided k = record { cells = k.cells; void = true; given = k.given; depth = k.depth; trials = k.trials }

-- the rows that come back in the Vec
pub refilled_front : (m : Meaning) (n : ℕ) (v : Vec Row Global) (xs ws : List Row) (r : Settled) → xs ≡ vec_items v → length ws ≡ vec_len v
    → Settles m (take n xs) (take n ws) r → drop n ws ≡ drop n xs
    → let ys = vec_items (with_items v ws) in Settles m (take n (vec_items v)) (take n ys) r × (drop n ys ≡ drop n (vec_items v))
refilled_front m n v xs ws r e l front past = rw (with_items_is v ws l, ← e) (front, past)

module _ (m : Meaning) (k : Control) (a b saved : List Row) (n : ℕ) (full : k.void ≡ false) where
  pub does_settled : Settles m (take k.cells a) (take k.cells b) (settle.Settled n)
      → Does m (state_of k a saved) (settled n) (state_of k b saved)
  does_settled (applied, still, _, _) = (
    full,
    applied,
    still,
    λ j. record { is_void = full j; rows = (state_of k b saved).rows; given = k.given; trials = (state_of k b saved).trials },
  )

  pub does_emptied : Settles m (take k.cells a) (take k.cells b) (settle.Void n)
      → Does m (state_of k a saved) (emptied n) (state_of (voided k) b saved)
  does_emptied ((i, r, e, applied, low, voids), _, _) =
      subst (λ v. Empties m (state_of k a saved) n (state_of (voided k) b saved) v) (sym full) (i, r, e, applied, low, voids, refl)

  module _ (laws : FiveLaws m) (ok : sound (take k.cells a) ≡ true) where
    pub leaves_settled : Settles m (take k.cells a) (take k.cells b) (settle.Settled n)
        → WidestIn m (state_of k a saved) (board (state_of k b saved))
    leaves_settled (applied, still, _, _) =
        subst (λ v. WidestIn m (state_of k a saved) (cond v void (cells (state_of k b saved).rows))) (sym full)
        (widest_settled m (state_of k a saved) laws full ok applied still)

    pub leaves_emptied : Settles m (take k.cells a) (take k.cells b) (settle.Void n)
        → WidestIn m (state_of k a saved) (board (state_of (voided k) b saved))
    leaves_emptied ((i, r, e, applied, low, voids), _, _) =
        widest_emptied m (state_of k a saved) laws full ok applied r low voids
