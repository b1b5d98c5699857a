-- What the newest call's answer says.
use Rattle.std.proofs.Common.{◌≡◌, ℕ, true, false, cond, List, ◌∷◌, sym, refl, ap, subst}
use Rattle.bounds.specs.declared.row.Row.{Row}
use Rattle.bounds.specs.Boards.{Board, void, cells, Within, Fixed}
use Rattle.bounds.specs.Laws.{Meaning, FiveLaws}
use Rattle.bounds.proofs.Rows.{cells_void}
use Rattle.board.specs.Calls.{State, board, Event, refused, tightened, opened, kept, dropped, asked, settled, emptied, found, none_found, Does}
use Rattle.settling.specs.Plans.{Plan, Still, Widest}
use Rattle.search.proofs.Leaves.{fixed_plan}
use Rattle.run.specs.Runs.{Ledger, enter}
use Rattle.run.specs.Promise.{Allowed, Encloses, Accounted, Newest, OnlyVoid}
use Rattle.run.proofs.Steps.{accounted_step, step_emptied}

within_void : (c : Board) → Within c void → c ≡ void
within_void void w = refl
within_void (cells a) w = absurd w

module _ (m : Meaning) (laws : FiveLaws m) (job : List Row) (b : Ledger) (t : State) (i : Accounted m job b t) where
  widest : Still m (board t) → Widest m (Allowed job b.in_force) (board t)
  widest s = record { real = i.current.real; still = s; allowed = i.current.allowed; widest = i.current.widest }

  said_settled : t.is_void ≡ false → Still m (cells t.rows)
      → Widest m (Allowed job b.in_force) (board t) × (OnlyVoid m job b.in_force → ⊥) × ((p : List ℕ) → Fixed t.rows p → Plan m p)
  said_settled e q =
      let s = subst (λ v. Still m (cond v void (cells t.rows))) (sym e) q in
      let h = subst (λ v. Encloses m (Allowed job b.in_force) (cond v void (cells t.rows))) e i.current in
      (widest s, (λ o. cells_void t.rows (o (cells t.rows) h.real q h.allowed)), fixed_plan m laws t.rows h.real q)

  said_emptied : t.is_void ≡ true → Widest m (Allowed job b.in_force) (board t) × (board t ≡ void) × OnlyVoid m job b.in_force
  said_emptied e = (
    widest (subst (λ v. Still m (cond v void (cells t.rows))) (sym e) (λ r lt. refl)),
    ap (λ v. cond v void (cells t.rows)) e,
    λ c rc sc ac. within_void c (subst (λ v. Within c (cond v void (cells t.rows))) e (i.current.widest c rc sc ac)),
  )

module _ (m : Meaning) (laws : FiveLaws m) (job : List Row) (b : Ledger) (s : State) (i : Accounted m job b s) (es : List Event) where
  pub newest_step : (e : Event) (t : State) → Does m s e t → Newest m job (enter e b).in_force t (e ∷ es)
  newest_step (refused c n) t d = tt
  newest_step (tightened c l h) t d = tt
  newest_step (opened k) t d = tt
  newest_step (kept k) t d = tt
  newest_step (dropped k) t d = tt
  newest_step (asked c l h) t d = tt
  newest_step (settled n) t d =
      said_settled m laws job b t (accounted_step m job b s i laws (settled n) t d) (ap (λ (x : State). x.is_void) d.3) d.2
  newest_step (emptied n) t d =
      said_emptied m laws job b t (accounted_step m job b s i laws (emptied n) t d) (step_emptied m job b s i laws n t d).1
  newest_step (found pr sr p) t d = record {
    is_plan = d.1.is_plan;
    is_allowed = i.current.allowed p d.1.is_allowed;
    no_earlier = λ q pq aq. d.1.no_earlier q pq (i.current.plans q pq aq);
  }
  newest_step (none_found pr sr) t d = λ p pl al. d.1 p pl (i.current.plans p pl al)
