-- What a settle leaves is the widest board within the one that it found that no rule narrows.
use Rattle.std.proofs.Common.{◌≡◌, ℕ, true, false, cond, List, sym, refl, subst}
use Rattle.bounds.specs.declared.row.Row.{Row}
use Rattle.bounds.specs.Boards.{Board, void, cells, sound, Lies}
use Rattle.bounds.specs.Laws.{Meaning, FiveLaws}
use Rattle.board.specs.Calls.{State, board}
use Rattle.settling.specs.Plans.{Lowest, Applies, Still, Widest}
use Rattle.settling.proofs.Holds.{Holds, unfilled, holds_narrowed}
use Rattle.settling.proofs.Applied.{applied_holds}

-- within the board of the state
abbrev pub WidestIn : Meaning → State → Board → Type 0
WidestIn m s b = Widest m (λ p. Lies p (board s)) b

module _ (m : Meaning) (s : State) where
  pub widest_void : s.is_void ≡ true → WidestIn m s (board s)
  widest_void e = subst (λ v. Widest m (λ p. Lies p (cond v void (cells s.rows))) (cond v void (cells s.rows))) (sym e)
      (record { real = tt; still = λ r l. refl; allowed = λ p f. f; widest = λ c rc sc ac. unfilled c rc ac })

  module _ (laws : FiveLaws m) (full : s.is_void ≡ false) (ok : sound s.rows ≡ true) {b : List Row} {n : ℕ} (x : Applies m s.rows b n) where
    abbrev holds : Holds m (λ p. Lies p (cells s.rows)) (cells b)
    holds = applied_holds m laws ok x

    from : (c : Board) → Still m c → Holds m (λ p. Lies p (cells s.rows)) c → WidestIn m s c
    from c still h = subst (λ v. Widest m (λ p. Lies p (cond v void (cells s.rows))) c) (sym full)
        (record { real = h.real; still = still; allowed = h.allowed; widest = h.widest })

    pub widest_settled : Still m (cells b) → WidestIn m s (cells b)
    widest_settled still = from (cells b) still holds

    pub widest_emptied : (r : ℕ) → Lowest m b r → (m.rule r).narrowed b ≡ void → WidestIn m s void
    widest_emptied r low e = from void (λ r l. refl) (holds_narrowed m laws _ b r void low.listed e holds)
