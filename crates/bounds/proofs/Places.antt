-- Fillings and boards cell by cell.
use Rattle.std.proofs.Common.{◌≡◌, ℕ, zero, suc, ◌<◌, ◌≤◌, true, List, [], ◌∷◌, length, get_or, refl, ap, arith}
use Rattle.std.proofs.lemmas.List.{ext_get_or}
use Rattle.std.proofs.lemmas.Bool.{leb-true, le-leb, and_parts, and_from}
use Rattle.bounds.specs.declared.row.Row.{Row}
use Rattle.bounds.specs.Boards.{sound, Inside, Fills, Fixed, none_row}

abbrev pub low_at : List Row → ℕ → ℕ
low_at a c = (get_or a c none_row).low

abbrev pub high_at : List Row → ℕ → ℕ
high_at a c = (get_or a c none_row).high

pub fills_length : (p : List ℕ) (a : List Row) → Fills p a → length p ≡ length a
fills_length [] [] h = refl
fills_length [] (r ∷ a) h = absurd h
fills_length (n ∷ p) [] h = absurd h
fills_length (n ∷ p) (r ∷ a) h = ap suc (fills_length p a h.2)

pub fills_at : (p : List ℕ) (a : List Row) → Fills p a → (c : ℕ) → c < length a → (low_at a c ≤ get_or p c 0) × (get_or p c 0 ≤ high_at a c)
fills_at [] [] h c k = omega arith
fills_at [] (r ∷ a) h c k = absurd h
fills_at (n ∷ p) [] h c k = absurd h
fills_at (n ∷ p) (r ∷ a) h zero k = (h.0, h.1)
fills_at (n ∷ p) (r ∷ a) h (suc c) k = fills_at p a h.2 c (omega arith)

pub at_fills : (p : List ℕ) (a : List Row) → length p ≡ length a
    → ((c : ℕ) → c < length a → (low_at a c ≤ get_or p c 0) × (get_or p c 0 ≤ high_at a c)) → Fills p a
at_fills [] [] e h = tt
at_fills [] (r ∷ a) e h = omega arith
at_fills (n ∷ p) [] e h = omega arith
at_fills (n ∷ p) (r ∷ a) e h =
    let here = h 0 (omega arith) in
    (here.0, here.1, at_fills p a (omega arith) (λ c k. h (suc c) (omega arith)))

pub at_inside : (g h : List Row) → length g ≡ length h
    → ((c : ℕ) → c < length g → (low_at h c ≤ low_at g c) × (high_at g c ≤ high_at h c)) → Inside g h
at_inside [] [] e k = tt
at_inside [] (r ∷ h) e k = omega arith
at_inside (s ∷ g) [] e k = omega arith
at_inside (s ∷ g) (r ∷ h) e k =
    let here = k 0 (omega arith) in
    (here.0, here.1, at_inside g h (omega arith) (λ c l. k (suc c) (omega arith)))

pub inside_at : (g h : List Row) → Inside g h → (c : ℕ) → c < length g → (low_at h c ≤ low_at g c) × (high_at g c ≤ high_at h c)
inside_at [] h i c l = absurd (omega arith)
inside_at (s ∷ g) [] i c l = absurd i
inside_at (s ∷ g) (r ∷ h) i zero l = (i.0, i.1)
inside_at (s ∷ g) (r ∷ h) i (suc c) l = inside_at g h i.2 c (omega arith)

pub at_fixed : (a : List Row) (p : List ℕ) → length p ≡ length a
    → ((c : ℕ) → c < length a → (low_at a c ≡ get_or p c 0) × (high_at a c ≡ get_or p c 0)) → Fixed a p
at_fixed [] [] e h = tt
at_fixed [] (n ∷ p) e h = omega arith
at_fixed (r ∷ a) [] e h = omega arith
at_fixed (r ∷ a) (n ∷ p) e h =
    let here = h 0 (omega arith) in
    (here.0, here.1, at_fixed a p (omega arith) (λ c k. h (suc c) (omega arith)))

pub fixed_one : (a : List Row) (p q : List ℕ) → Fixed a p → Fills q a → p ≡ q
fixed_one [] [] [] e f = refl
fixed_one [] [] (m ∷ q) e f = absurd f
fixed_one [] (n ∷ p) q e f = absurd e
fixed_one (r ∷ a) [] q e f = absurd e
fixed_one (r ∷ a) (n ∷ p) [] e f = absurd f
fixed_one (r ∷ a) (n ∷ p) (m ∷ q) e f = let here : n ≡ m = omega arith in let rest = fixed_one a p q e.2 f.2 in cc

pub fills_inside : (p : List ℕ) (a b : List Row) → Inside a b → Fills p a → Fills p b
fills_inside [] [] [] h f = tt
fills_inside [] [] (y ∷ b) h f = h
fills_inside [] (x ∷ a) b h f = absurd f
fills_inside (n ∷ p) [] b h f = absurd f
fills_inside (n ∷ p) (x ∷ a) [] h f = h
fills_inside (n ∷ p) (x ∷ a) (y ∷ b) h f = (omega arith, omega arith, fills_inside p a b h.2 f.2)

pub same_row : (r s : Row) → r.low ≡ s.low → r.high ≡ s.high → r ≡ s
same_row r s e f = λ i. record { low = e i; high = f i }

pub inside_both : (g h : List Row) → Inside g h → Inside h g → g ≡ h
inside_both [] [] i j = refl
inside_both [] (r ∷ h) i j = absurd i
inside_both (s ∷ g) [] i j = absurd i
inside_both (s ∷ g) (r ∷ h) i j =
    let e : s ≡ r = same_row s r (omega arith) (omega arith) in
    let f = inside_both g h i.2 j.2 in cc

pub sound_at : (a : List Row) → sound a ≡ true → (c : ℕ) → c < length a → low_at a c ≤ high_at a c
sound_at [] s c k = omega arith
sound_at (r ∷ a) s zero k = leb-true r.low r.high (and_parts _ _ s).0
sound_at (r ∷ a) s (suc c) k = sound_at a (and_parts _ _ s).1 c (omega arith)

pub at_sound : (a : List Row) → ((c : ℕ) → c < length a → low_at a c ≤ high_at a c) → sound a ≡ true
at_sound [] h = refl
at_sound (r ∷ a) h = and_from _ _ (le-leb r.low r.high (h 0 (omega arith))) (at_sound a (λ c k. h (suc c) (omega arith)))

pub fills_sound : (p : List ℕ) (a : List Row) → Fills p a → sound a ≡ true
fills_sound [] [] f = refl
fills_sound [] (r ∷ a) f = absurd f
fills_sound (n ∷ p) [] f = absurd f
fills_sound (n ∷ p) (r ∷ a) f = and_from _ _ (le-leb r.low r.high (omega arith)) (fills_sound p a f.2)

pub same_rows : (g h : List Row) → length g ≡ length h → ((c : ℕ) → c < length h → get_or g c none_row ≡ get_or h c none_row) → g ≡ h
same_rows g h e k = ext_get_or none_row g h e (λ c l. k c (omega arith))
