-- Parts of sound rows are sound.
use Rattle.std.proofs.Common.{◌≡◌, ℕ, ◌+◌, ◌≤◌, true, leb, List, length, take, drop, sym, ap, ◌∙◌, take-add}
use Rattle.std.proofs.lemmas.List.{take-append-drop, take-take, drop-take}
use Rattle.std.proofs.lemmas.List.Folds.{list_all-append}
use Rattle.std.proofs.lemmas.Bool.{and_parts, and_from}
use Rattle.bounds.specs.declared.row.Row.{Row}
use Rattle.bounds.specs.Boards.{sound}
use Rattle.board.specs.Held.{Pasted}

pub sound_split : (n : ℕ) (a : List Row) → sound a ≡ true → (sound (take n a) ≡ true) × (sound (drop n a) ≡ true)
sound_split n a s = and_parts _ _ (sym (list_all-append (λ (r : Row). leb r.low r.high) (take n a) (drop n a)) ∙ ap sound (take-append-drop n a) ∙ s)

pub sound_fewer : (m n : ℕ) (a : List Row) → m ≤ n → sound (take n a) ≡ true → sound (take m a) ≡ true
sound_fewer m n a h s = rw (← take-take m n a h) (sound_split m (take n a) s).0

pub sound_part : (m k n : ℕ) (a : List Row) → m + k ≤ n → sound (take n a) ≡ true → sound (take k (drop m a)) ≡ true
sound_part m k n a h s = rw (← drop-take m k a) (sound_split m (take (m + k) a) (sound_fewer (m + k) n a h s)).1

pub sound_pasted : (p : ℕ) (rows xs ys : List Row) → Pasted p rows xs ys → sound (take p xs) ≡ true → sound rows ≡ true → sound (take (p + length rows) ys) ≡ true
sound_pasted p rows xs ys h s t = rw (take-add p (length rows) ys, h.before, h.middle)
    (list_all-append (λ (r : Row). leb r.low r.high) (take p xs) rows ∙ and_from _ _ s t)
