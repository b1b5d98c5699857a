-- The hull of fillings: the narrowest board that holds them, each bound attained.
use Rattle.std.proofs.Common.{◌≡◌, ℕ, zero, suc, ◌<◌, min, max, Bool, List, [], ◌∷◌, length, get_or, sym, refl, ap, ◌∙◌, subst, inl, inr, arith}
use mathlib.Core.List.Memᴰ
use mathlib.Core.List.{Memᴰ}
use Rattle.std.proofs.lemmas.Bool.{cases_lt}
use Rattle.bounds.specs.declared.row.Row.{Row}
use Rattle.bounds.specs.Boards.{Board, void, cells, Real, Within, Fills, Lies}
use Rattle.bounds.specs.Exact.{fillings, only, point, join, widen, hull, exact}
pub use Rattle.bounds.specs.Theorems.{Meeting}
use Rattle.bounds.proofs.Places.{low_at, high_at, fills_length, fills_at, fills_sound, at_inside, inside_both}
use Rattle.bounds.proofs.Members.{in_fillings, fillings_has, in_only, only_has}

-- the rows hold every filling of M, of which there is one, and each bound is the count of one
pub record Tight (M : List ℕ → Type 0) (g : List Row) : Type 0 where
  pub one : (p : List ℕ) × M p
  pub holds : (p : List ℕ) → M p → Fills p g
  pub lowest : (c : ℕ) → c < length g → (p : List ℕ) × M p × (get_or p c 0 ≡ low_at g c)
  pub highest : (c : ℕ) → c < length g → (p : List ℕ) × M p × (get_or p c 0 ≡ high_at g c)

abbrev pub Hull : (List ℕ → Type 0) → Board → Type 0
Hull M void = (p : List ℕ) → M p → ⊥
Hull M (cells g) = Tight M g

fills_point : (p : List ℕ) → Fills p (point p)
fills_point [] = tt
fills_point (n ∷ p) = (omega arith, omega arith, fills_point p)

point_at : (p : List ℕ) (c : ℕ) → c < length (point p) → (get_or p c 0 ≡ low_at (point p) c) × (get_or p c 0 ≡ high_at (point p) c)
point_at [] c h = omega arith
point_at (n ∷ p) zero h = (refl, refl)
point_at (n ∷ p) (suc c) h = point_at p c (omega arith)

fills_join : (p : List ℕ) (g : List Row) → length p ≡ length g → Fills p (join p g)
fills_join [] g e = tt
fills_join (n ∷ p) [] e = omega arith
fills_join (n ∷ p) (r ∷ g) e = (omega arith, omega arith, fills_join p g (omega arith))

join_fills : (p q : List ℕ) (g : List Row) → length p ≡ length g → Fills q g → Fills q (join p g)
join_fills [] q [] e f = f
join_fills [] q (r ∷ g) e f = absurd (omega arith)
join_fills (n ∷ p) q [] e f = absurd (omega arith)
join_fills (n ∷ p) [] (r ∷ g) e f = f
join_fills (n ∷ p) (m ∷ q) (r ∷ g) e f = (omega arith, omega arith, join_fills p q g (omega arith) f.2)

join_length : (p : List ℕ) (g : List Row) → length p ≡ length g → length (join p g) ≡ length g
join_length [] g e = e
join_length (n ∷ p) [] e = refl
join_length (n ∷ p) (r ∷ g) e = ap suc (join_length p g (omega arith))

join_at : (p : List ℕ) (g : List Row) → length p ≡ length g → (c : ℕ) → c < length g
    → (low_at (join p g) c ≡ min (get_or p c 0) (low_at g c)) × (high_at (join p g) c ≡ max (get_or p c 0) (high_at g c))
join_at [] g e c h = absurd (omega arith)
join_at (n ∷ p) [] e c h = absurd (omega arith)
join_at (n ∷ p) (r ∷ g) e zero h = (refl, refl)
join_at (n ∷ p) (r ∷ g) e (suc c) h = join_at p g (omega arith) c (omega arith)

module _ (M N : List ℕ → Type 0) (to : (p : List ℕ) → M p → N p) where
  pub tight_same : (g : List Row) → ((p : List ℕ) → N p → M p) → Tight M g → Tight N g
  tight_same g back t = record {
    one = (t.one.0, to _ t.one.1);
    holds = λ p n. t.holds p (back p n);
    lowest = λ c h. let (p, m, e) = t.lowest c h in (p, to p m, e);
    highest = λ c h. let (p, m, e) = t.highest c h in (p, to p m, e);
  }

  pub hull_same : (b : Board) → ((p : List ℕ) → N p → M p) → Hull M b → Hull N b
  hull_same void back t = λ p n. t p (back p n)
  hull_same (cells g) back t = tight_same g back t

abbrev Among : List (List ℕ) → List ℕ → Type 0
Among ps p = Memᴰ p ps

widen_hull : (p : List ℕ) (ps : List (List ℕ)) (b : Board) → ((q : List ℕ) → Among ps q → length p ≡ length q)
    → Hull (Among ps) b → Hull (Among (p ∷ ps)) (widen p b)
widen_hull p ps void same t = record {
  one = (p, Memᴰ.head refl);
  holds = λ q m. elim (Memᴰ.cases_cons m) [ inl e ↦ subst (λ s. Fills s (point p)) (sym e) (fills_point p) | inr i ↦ absurd (t q i) ];
  lowest = λ c h. (p, Memᴰ.head refl, (point_at p c h).0);
  highest = λ c h. (p, Memᴰ.head refl, (point_at p c h).1);
}
widen_hull p ps (cells g) same t =
    let k : length p ≡ length g = same _ t.one.1 ∙ fills_length _ g (t.holds _ t.one.1) in
    record {
      one = (p, Memᴰ.head refl);
      holds = λ q m. elim (Memᴰ.cases_cons m) [ inl e ↦ subst (λ s. Fills s (join p g)) (sym e) (fills_join p g k) | inr i ↦ join_fills p q g k (t.holds q i) ];
      lowest = λ c h. let here : c < length g = omega (arith, join_length p g k) in let j = join_at p g k c here in
          elim (cases_lt (get_or p c 0) (low_at g c)) [ inl l ↦ (p, Memᴰ.head refl, omega arith) | inr l ↦ let (q, m, e) = t.lowest c here in (q, Memᴰ.tail m, omega arith) ];
      highest = λ c h. let here : c < length g = omega (arith, join_length p g k) in let j = join_at p g k c here in
          elim (cases_lt (high_at g c) (get_or p c 0)) [ inl l ↦ (p, Memᴰ.head refl, omega arith) | inr l ↦ let (q, m, e) = t.highest c here in (q, Memᴰ.tail m, omega arith) ];
    }

hull_is : (n : ℕ) (ps : List (List ℕ)) → ((p : List ℕ) → Among ps p → length p ≡ n) → Hull (Among ps) (hull ps)
hull_is n [] same = λ p m. Memᴰ.not-nil m
hull_is n (p ∷ ps) same = widen_hull p ps (hull ps) (λ q m. omega (arith, same p (Memᴰ.head refl), same q (Memᴰ.tail m))) (hull_is n ps (λ q m. same q (Memᴰ.tail m)))

pub exact_is : (meets : List ℕ → Bool) (a : List Row) → Hull (Meeting meets a) (exact meets a)
exact_is meets a =
    let meeting : (p : List ℕ) → Among (only meets (fillings a)) p → Meeting meets a p =
    λ p m. let o = in_only meets p (fillings a) m in (in_fillings p a o.0, o.1) in
    hull_same _ _ meeting (exact meets a) (λ p m. only_has meets p _ (fillings_has p a m.0) m.1)
    (hull_is (length a) _ (λ p m. fills_length p a (meeting p m).0))

-- a board that holds every filling of M is at least as wide
pub narrowest : (M : List ℕ → Type 0) (b c : Board) → Hull M b → ((p : List ℕ) → M p → Lies p c) → Within b c
narrowest M void c t h = tt
narrowest M (cells g) void t h = h _ t.one.1
narrowest M (cells g) (cells k) t h =
    let e : length g ≡ length k = sym (fills_length _ g (t.holds _ t.one.1)) ∙ fills_length _ k (h _ t.one.1) in
    at_inside g k e λ c l.
    let (p, m, low) = t.lowest c l in let (q, n, high) = t.highest c l in
    (omega (arith, fills_at p k (h p m) c (omega arith)), omega (arith, fills_at q k (h q n) c (omega arith)))

pub hull_holds : (M : List ℕ → Type 0) (b : Board) → Hull M b → (p : List ℕ) → M p → Lies p b
hull_holds M void t p m = t p m
hull_holds M (cells g) t p m = t.holds p m

pub hull_real : (M : List ℕ → Type 0) (b : Board) → Hull M b → Real b
hull_real M void h = tt
hull_real M (cells g) t = fills_sound _ g (t.holds _ t.one.1)

within_both : (b c : Board) → Within b c → Within c b → b ≡ c
within_both void void i j = refl
within_both void (cells k) i j = absurd j
within_both (cells g) void i j = absurd i
within_both (cells g) (cells k) i j = ap (λ r. cells r) (inside_both g k i j)

-- there is one hull
pub hull_one : (M : List ℕ → Type 0) (b c : Board) → Hull M b → Hull M c → b ≡ c
hull_one M b c t u = within_both b c (narrowest M b c t (hull_holds M c u)) (narrowest M c b u (hull_holds M b t))
