-- Stated of what this crate defines, and used by none of its proofs: what is left of a scan of cells that a record
-- names decides, and what a hull and a family from a file are.
use Rattle.std.proofs.Common.{◌≡◌, ℕ, suc, ◌+◌, ◌-◌, ◌<◌, ◌≤◌, Bool, true, false, cond, not, ◌&&◌, ◌↔◌, eqb, ltb, List, length, get_or, take, drop, sym, ap, ◌∙◌, arith}
use mathlib.Core.List.{Memᴰ}
use Rattle.std.proofs.lemmas.List.{at_drop_more, at_drop_all}
use Rattle.std.proofs.lemmas.List.Sums.{sum_by_more}
use Rattle.std.proofs.lemmas.Bool.{lt-ltb, le-ltb, eq-eqb, ne_eqb}
use Rattle.bounds.specs.declared.row.Row.{Row}
use Rattle.bounds.specs.Boards.{cells, sound, spread, Fills, none_row}
use Rattle.bounds.specs.Exact.{fillings}
use Rattle.bounds.specs.Laws.{FiveLaws}
use Rattle.bounds.specs.Scoped.{Scoped, ScopedLaws, fits, names, distinct, scatter}
use Rattle.bounds.specs.Listed.{listed}
use Rattle.bounds.proofs.Members.{in_fillings, fillings_has}
use Rattle.bounds.proofs.Hulls.{Tight, Meeting, hull_real}
use Rattle.bounds.proofs.Lifted.{numbered_lawful}

pub fits_more : (xs : List ℕ) (i x n : ℕ) (all : Bool) → i < length xs → x ≡ get_or xs i 0 → x < n
    → fits (drop i xs) n ≡ all → fits (drop (i + 1) xs) n ≡ all
fits_more xs i x n all h e l from =
    ap (λ (t : Bool). t && fits (drop (i + 1) xs) n) (sym (lt-ltb x n l) ∙ ap (λ (y : ℕ). ltb y n) e)
    ∙ sym (at_drop_more (λ (ys : List ℕ). fits ys n) xs i 0 h) ∙ from

pub fits_off : (xs : List ℕ) (i x n : ℕ) (all : Bool) → i < length xs → x ≡ get_or xs i 0 → n ≤ x
    → fits (drop i xs) n ≡ all → false ≡ all
fits_off xs i x n all h e l from =
    ap (λ (t : Bool). t && fits (drop (i + 1) xs) n) (sym (le-ltb x n l) ∙ ap (λ (y : ℕ). ltb y n) e)
    ∙ sym (at_drop_more (λ (ys : List ℕ). fits ys n) xs i 0 h) ∙ from

pub fits_end : (xs : List ℕ) (i n : ℕ) (all : Bool) → length xs ≤ i → fits (drop i xs) n ≡ all → true ≡ all
fits_end xs i n all h from = sym (at_drop_all (λ (ys : List ℕ). fits ys n) xs i h) ∙ from

pub names_more : (xs : List ℕ) (i x y : ℕ) (all : Bool) → i < length xs → x ≡ get_or xs i 0 → (x ≡ y → ⊥)
    → names (drop i xs) y ≡ all → names (drop (i + 1) xs) y ≡ all
names_more xs i x y all h e l from =
    ap (λ (t : Bool). cond t true (names (drop (i + 1) xs) y)) (sym (ne_eqb x y l) ∙ ap (λ (z : ℕ). eqb z y) e)
    ∙ sym (at_drop_more (λ (ys : List ℕ). names ys y) xs i 0 h) ∙ from

pub names_found : (xs : List ℕ) (i x y : ℕ) (all : Bool) → i < length xs → x ≡ get_or xs i 0 → x ≡ y
    → names (drop i xs) y ≡ all → true ≡ all
names_found xs i x y all h e l from =
    ap (λ (t : Bool). cond t true (names (drop (i + 1) xs) y)) (sym (eq-eqb x y l) ∙ ap (λ (z : ℕ). eqb z y) e)
    ∙ sym (at_drop_more (λ (ys : List ℕ). names ys y) xs i 0 h) ∙ from

pub names_end : (xs : List ℕ) (i y : ℕ) (all : Bool) → length xs ≤ i → names (drop i xs) y ≡ all → false ≡ all
names_end xs i y all h from = sym (at_drop_all (λ (ys : List ℕ). names ys y) xs i h) ∙ from

pub distinct_more : (xs : List ℕ) (i : ℕ) (again all : Bool) → i < length xs → again ≡ names (drop (i + 1) xs) (get_or xs i 0)
    → distinct (drop i xs) ≡ all → (not again && distinct (drop (i + 1) xs)) ≡ all
distinct_more xs i again all h e from =
    ap (λ (t : Bool). not t && distinct (drop (i + 1) xs)) e
    ∙ sym (at_drop_more distinct xs i 0 h) ∙ from

pub distinct_end : (xs : List ℕ) (i : ℕ) (all : Bool) → length xs ≤ i → distinct (drop i xs) ≡ all → true ≡ all
distinct_end xs i all h from = sym (at_drop_all distinct xs i h) ∙ from

pub fillings_are : (p : List ℕ) (a : List Row) → Fills p a ↔ Memᴰ p (fillings a)
fillings_are p a = (fillings_has p a, in_fillings p a)

pub tight_sound : (meets : List ℕ → Bool) (a g : List Row) → Tight (Meeting meets a) g → sound g ≡ true
tight_sound meets a g t = hull_real (Meeting meets a) (cells g) t

pub listed_lawful : (at : List ℕ → ℕ → Scoped) → ((f : List ℕ) (i : ℕ) → ScopedLaws (at f i)) → (file places : List ℕ) → FiveLaws (listed at file places)
listed_lawful at laws file places =
    numbered_lawful (length places) (λ r. at file (get_or places r 0)) (λ r. laws file (get_or places r 0))

pub spread_take : (a : List Row) (i : ℕ) → i < length a
    → spread (take (suc i) a) ≡ spread (take i a) + ((get_or a i none_row).high - (get_or a i none_row).low)
spread_take a i k = let e : suc i ≡ i + 1 = omega arith in rw e (omega (arith, sum_by_more (λ (r : Row). r.high - r.low) a i none_row k))

pub scatter_all : {A : Type 0} (cs : List ℕ) (g xs : List A) (i : ℕ) → length cs ≤ i → scatter (drop i cs) g xs ≡ xs
scatter_all cs g xs i l = at_drop_all (λ x. scatter x g xs) cs i l
