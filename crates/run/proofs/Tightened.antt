-- What a tightening leaves of a board that encloses what is allowed.
use Rattle.std.proofs.Common.{◌≡◌, ℕ, ◌<◌, ◌≤◌, true, List, [], ◌∷◌, length, get_or, arith}
use Rattle.bounds.specs.declared.row.Row.{Row}
use Rattle.bounds.specs.Boards.{Board, void, cells, sound, Real, Lies, Fills, none_row}
use Rattle.bounds.specs.Cells.{common}
use Rattle.bounds.specs.Laws.{Meaning}
use Rattle.bounds.proofs.Places.{fills_at}
use Rattle.bounds.proofs.Rows.{cut, fills_cut, cut_fills, sound_set}
use Rattle.settling.specs.Plans.{Still, AllAllowed}
use Rattle.settling.proofs.Holds.{Holds, lies_within, covered, unfilled}
use Rattle.run.specs.Runs.{Range}
use Rattle.run.specs.Promise.{Allowed, Encloses}

module _ {m : Meaning} {Among : List ℕ → Type 0} {b : Board} where
  pub holds : Encloses m Among b → Holds m Among b
  holds e = record { real = e.real; allowed = e.allowed; widest = e.widest; plans = e.plans }

  pub encloses : Holds m Among b → Encloses m Among b
  encloses h = record { real = h.real; allowed = h.allowed; widest = h.widest; plans = h.plans }

module _ (m : Meaning) (job : List Row) where
  pub enclosed_first : sound job ≡ true → Encloses m (Allowed job []) (cells job)
  enclosed_first s = record {
    real = s;
    allowed = λ p f. (f, tt);
    widest = λ c rc sc ac. covered c job rc (λ p f. (ac p f).0);
    plans = λ p pl al. al.0;
  }

  module _ (gs : List Range) (a : List Row) (c l h : ℕ) (lt : c < length a) (i : Encloses m (Allowed job gs) (cells a)) where
    abbrev wanted : Range
    wanted = record { cell = c; low = l; high = h }

    before : (d : Board) → Real d → Still m d → AllAllowed (Allowed job (wanted ∷ gs)) d → (p : List ℕ) → Lies p d → Fills p a
    before d rd sd ad p f = lies_within p d (cells a) (i.widest d rd sd (λ q g. let k = ad q g in (k.0, k.1.2))) f

    pub enclosed_cut : (let r = common (get_or a c none_row) l h in r.low ≤ r.high) → Encloses m (Allowed job (wanted ∷ gs)) (cells (cut a c l h))
    enclosed_cut e = record {
      real = sound_set a c (common (get_or a c none_row) l h) i.real e;
      allowed = λ p f. let k = cut_fills p a c l h lt f in let q = i.allowed p k.0 in (q.0, (k.1, k.2, q.1));
      widest = λ d rd sd ad. covered d (cut a c l h) rd
          (λ p f. let k = ad p f in fills_cut p a c l h (before d rd sd ad p f) k.1.0 k.1.1);
      plans = λ p pl al. fills_cut p a c l h (i.plans p pl (al.0, al.1.2)) al.1.0 al.1.1;
    }

    apart : (let r = common (get_or a c none_row) l h in r.high < r.low)
        → (p : List ℕ) → Fills p a → l ≤ get_or p c 0 → get_or p c 0 ≤ h → ⊥
    apart e p f u v = omega (arith, fills_at p a f c lt)

    pub enclosed_none : (let r = common (get_or a c none_row) l h in r.high < r.low) → Encloses m (Allowed job (wanted ∷ gs)) void
    enclosed_none e = record {
      real = tt;
      allowed = λ p f. absurd f;
      widest = λ d rd sd ad. unfilled d rd (λ p f. let k = ad p f in apart e p (before d rd sd ad p f) k.1.0 k.1.1);
      plans = λ p pl al. apart e p (i.plans p pl (al.0, al.1.2)) al.1.0 al.1.1;
    }
