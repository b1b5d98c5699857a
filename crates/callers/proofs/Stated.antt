-- Stated of what this crate defines, and used by none of its proofs: dropping a trial's slip goes back to where it was
-- opened, whatever was tightened since.
use Rattle.std.proofs.Common.{◌≡◌, ℕ, ◌+◌, true, cond, eqb, leb, ◌∷◌, get_or, Ok, Err, Result, sym, refl, ap, ◌∙◌, arith}
use Rattle.std.proofs.lemmas.Bool.{cond_both, cond-true, eq-eqb}
use Rattle.bounds.specs.Boards.{void, cells, none_row}
use Rattle.bounds.specs.Cells.{common}
use Rattle.board.specs.declared.refusal.Refusal.{Refusal}
use Rattle.board.specs.declared.board.trials.Slip.{Slip}
use Rattle.board.specs.Calls.{State, Trial, board, is_open, older, at, refusal, drop, opened, Does}
use Rattle.board.specs.Held.{state, event_of_tighten, event_of_drop}
use Rattle.board.specs.declared.board.Board.{Board as Held}
use Rattle.callers.specs.Trying.{LeftAsFound, none}

tighten_trials : (s t : State) (c l h : ℕ) (r : Result (Unit {0}) Refusal) → Does none s (event_of_tighten c l h r) t → t.trials ≡ s.trials
tighten_trials s t c l h (Err e) d = ap (λ (x : State). x.trials) d.2
tighten_trials s t c l h (Ok x) d =
    ap (λ (x : State). x.trials) d.1 ∙
    cond_both (let r = common (get_or s.rows c none_row) l h in leb r.low r.high) _ _ (λ (x : State). x.trials ≡ s.trials) (λ _. refl) (λ _. refl)

module _ (s t u v : State) (slip : Slip) (o : Does none s (opened slip.serial) t) (same : u.trials ≡ t.trials) where
  abbrev saved : Trial
  saved = record { serial = s.given + 1; was_void = s.is_void; was_rows = s.rows }

  newest : u.trials ≡ saved ∷ s.trials
  newest = same ∙ ap (λ (x : State). x.trials) o.2

  hit : eqb (s.given + 1) slip.serial ≡ true
  hit = eq-eqb _ _ (sym o.1)

  granted : is_open slip.serial u.trials ≡ true
  granted = ap (is_open slip.serial) newest ∙ cond-true _ _ _ hit

  goes_back : (r : Result (Unit {0}) Refusal) → Does none u (event_of_drop slip r) v → (board v ≡ board s) × (v.trials ≡ s.trials)
  goes_back (Err e) d = let z : refusal u (drop slip.serial) ≡ 0 = cond-true _ _ _ granted in absurd (omega (arith, d.0, d.1))
  goes_back (Ok x) d =
      let t = ap (λ ts. at slip.serial ts (record { serial = 0; was_void = u.is_void; was_rows = u.rows })) newest ∙ cond-true _ _ _ hit in (
        ap board d.1 ∙ ap (λ (x : Trial). cond x.was_void void (cells x.was_rows)) t,
        ap (λ (x : State). x.trials) d.1 ∙ ap (older slip.serial) newest ∙ cond-true _ _ _ hit,
      )

-- as found, and then as found again
pub onward : (b c d : Held) → LeftAsFound b c → LeftAsFound c d → LeftAsFound b d
onward b c d x y = record { same_board = y.same_board ∙ x.same_board; same_trials = y.same_trials ∙ x.same_trials }

pub stayed : (b c : Held) → state c ≡ state b → LeftAsFound b c
stayed b c e = record { same_board = ap board e; same_trials = ap (λ (x : State). x.trials) e }

pub taken_back : (b c d e : Held) (slip : Slip) (cell low high : ℕ) (r q : Result (Unit {0}) Refusal) → Does none (state b) (opened slip.serial) (state c)
    → Does none (state c) (event_of_tighten cell low high r) (state d) → Does none (state d) (event_of_drop slip q) (state e) → LeftAsFound b e
taken_back b c d e slip cell low high r q o t x =
    let (same_board, same_trials) = goes_back (state b) (state c) (state d) (state e) slip o (tighten_trials (state c) (state d) cell low high r t) q x in
    record { same_board = same_board; same_trials = same_trials }
