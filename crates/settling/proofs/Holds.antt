-- What holds of a board and the fillings allowed, and what applications of rules keep.
use Rattle.std.proofs.Common.{◌≡◌, ℕ, ◌+◌, ◌<◌, ◌≤◌, true, List, ap, ◌∙◌, subst, ⊎_elim, arith}
use Rattle.std.proofs.lemmas.Bool.{cases_lt}
use Rattle.bounds.specs.declared.row.Row.{Row}
use Rattle.bounds.specs.Boards.{Board, void, cells, sound, Real, Within, Lies, Fills, spread}
use Rattle.bounds.specs.Laws.{Meaning, FiveLaws}
use Rattle.bounds.proofs.Places.{fills_inside}
use Rattle.bounds.proofs.Rows.{fills_lows, inside_all, spread_same}
use Rattle.settling.specs.Plans.{Plan, Lowest, Applies, stay, more, Still, AllAllowed}

pub record Holds (m : Meaning) (Allowed : List ℕ → Type 0) (b : Board) : Type 0 where
  pub real : Real b
  pub allowed : AllAllowed Allowed b
  pub widest : (c : Board) → Real c → Still m c → AllAllowed Allowed c → Within c b
  pub plans : (p : List ℕ) → Plan m p → Allowed p → Lies p b

pub lies_within : (p : List ℕ) (b c : Board) → Within b c → Lies p b → Lies p c
lies_within p void c w f = absurd f
lies_within p (cells a) void w f = w
lies_within p (cells a) (cells b) w f = fills_inside p a b w f

pub covered : (c : Board) (b : List Row) → Real c → ((p : List ℕ) → Lies p c → Fills p b) → Within c (cells b)
covered void b r k = tt
covered (cells a) b r k = inside_all a b r k

pub unfilled : (c : Board) → Real c → ((p : List ℕ) → Lies p c → ⊥) → Within c void
unfilled void r k = tt
unfilled (cells a) r k = k _ (fills_lows a r)

module _ (m : Meaning) where
  -- all fillings of the rows allowed
  pub holds_all : (a : List Row) → sound a ≡ true → Holds m (λ p. Fills p a) (cells a)
  holds_all a s = record {
    real = s;
    allowed = λ p f. f;
    widest = λ c rc sc ac. covered c a rc ac;
    plans = λ p pl al. al;
  }

  module _ (laws : FiveLaws m) (Allowed : List ℕ → Type 0) where
    narrows : (a : List Row) (r : ℕ) → r < m.size → sound a ≡ true → (c : Board) → Real c → Still m c
        → Within c (cells a) → Within c ((m.rule r).narrowed a)
    narrows a r lt s void rc sc w = tt
    narrows a r lt s (cells g) rc sc w =
        subst (λ (x : Board). Within x ((m.rule r).narrowed a)) (sc r lt) ((laws.each r).monotone g a rc s w)

    pub holds_narrowed : (a : List Row) (r : ℕ) (b : Board) → r < m.size → (m.rule r).narrowed a ≡ b
        → Holds m Allowed (cells a) → Holds m Allowed b
    holds_narrowed a r b lt e i = subst (λ (x : Board). Holds m Allowed x) e (record {
      real = (laws.each r).real a i.real;
      allowed = λ p f. i.allowed p (lies_within p ((m.rule r).narrowed a) (cells a) ((laws.each r).within a i.real) f);
      widest = λ c rc sc ac. narrows a r lt i.real c rc sc (i.widest c rc sc ac);
      plans = λ p pl al. (laws.each r).keeps a p i.real (i.plans p pl al) (pl r lt);
    })

    falls : (a b : List Row) (r : ℕ) → Lowest m a r → (m.rule r).narrowed a ≡ cells b → Holds m Allowed (cells a)
        → sound b ≡ true → spread b < spread a
    falls a b r low e i s = ⊎_elim (λ k. k)
        (λ k. absurd (low.moves (e ∙ ap cells (spread_same b a s
        (subst (λ (x : Board). Within x (cells a)) e ((laws.each r).within a i.real)) k))))
        (cases_lt (spread b) (spread a))

    pub holds_applied : {a b : List Row} {n : ℕ} → Applies m a b n → Holds m Allowed (cells a)
        → Holds m Allowed (cells b) × (n + spread b ≤ spread a)
    holds_applied stay i = (i, omega arith)
    holds_applied (more {b = b} {c = c} x r low e) i =
        let k = holds_applied x i in
        let h = holds_narrowed b r (cells c) low.listed e k.0 in
        (h, omega (arith, falls b c r low e k.0 h.real))
