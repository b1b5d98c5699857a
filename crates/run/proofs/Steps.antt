-- Every call keeps what holds of the board and of each open trial.
use Rattle.std.proofs.Common.{◌≡◌, ℕ, ◌+◌, ◌<◌, ◌≤◌, Bool, true, false, cond, eqb, ltb, leb, List, [], ◌∷◌, length, get_or, sym, refl, ap, ◌∙◌, subst, arith}
use Rattle.std.proofs.lemmas.Bool.{false≢true, cond_both, ltb-true, leb-true, leb-false}
use Rattle.bounds.specs.declared.row.Row.{Row}
use Rattle.bounds.specs.Boards.{void, cells, spread, width, none_row}
use Rattle.bounds.specs.Cells.{common}
use Rattle.bounds.specs.Laws.{Meaning, FiveLaws}
use Rattle.bounds.proofs.Rows.{spread_cut, spread_pos}
use Rattle.board.specs.Calls.{State, Trial, board, older, at, is_open, refusal, tighten, Event, refused, tightened, opened, kept, dropped, asked, settled, emptied, found, none_found, Does, Empties}
use Rattle.settling.proofs.Holds.{holds_applied, holds_narrowed}
use Rattle.run.specs.Runs.{Note, Ledger, earlier, noted, enter, Tally, count}
use Rattle.run.specs.Promise.{Allowed, Encloses, InStep, Accounted, saved}
use Rattle.run.proofs.Tightened.{holds, encloses, enclosed_cut, enclosed_none}

-- a test that a granted call passed
pub passed : (x : Bool) (n k : ℕ) → cond x n k ≡ 0 → 0 < k → (x ≡ true) × (n ≡ 0)
passed true n k e p = (refl, e)
passed false n k e p = absurd (omega arith)

not_void : (x : Bool) → ◌≡◌ {A = ℕ} (cond x 11 0) 0 → x ≡ false
not_void true e = absurd (omega arith)
not_void false e = refl

pub tighten_granted : (s : State) (c l h : ℕ) → refusal s (tighten c l h) ≡ 0 → (c < length s.rows) × (s.is_void ≡ false)
tighten_granted s c l h e =
    let p = passed (ltb c (length s.rows)) _ 9 e (omega arith) in
    let q = passed (leb l h) _ 10 p.1 (omega arith) in
    (ltb-true c (length s.rows) p.0, not_void s.is_void q.1)

module _ (m : Meaning) (job : List Row) where
  older_noted : (k : ℕ) (ts : List Trial) (ns : List Note) → InStep m job ts ns → InStep m job (older k ts) (earlier k ns)
  older_noted k [] [] h = tt
  older_noted k [] (n ∷ ns) h = absurd h
  older_noted k (t ∷ ts) [] h = absurd h
  older_noted k (t ∷ ts) (n ∷ ns) h =
      subst (λ (x : ℕ). InStep m job (older k (t ∷ ts)) (cond (eqb x k) ns (earlier k ns))) h.0
      (elim (eqb t.serial k) as (λ v. InStep m job (cond v ts (older k ts)) (cond v ns (earlier k ns)))
      [ true ↦ h.2 | false ↦ older_noted k ts ns h.2 ])

  at_noted : (k : ℕ) (ts : List Trial) (ns : List Note) (d : Trial) → InStep m job ts ns → is_open k ts ≡ true
      → Encloses m (Allowed job (noted k ns)) (saved (at k ts d))
  at_noted k [] ns d h o = absurd (false≢true o)
  at_noted k (t ∷ ts) [] d h o = absurd h
  at_noted k (t ∷ ts) (n ∷ ns) d h o =
      subst (λ (x : ℕ). Encloses m (Allowed job (cond (eqb x k) n.force (noted k ns))) (saved (at k (t ∷ ts) d))) h.0
      ((elim (eqb t.serial k) as (λ v. cond v true (is_open k ts) ≡ true → Encloses m (Allowed job (cond v n.force (noted k ns))) (saved (cond v t (at k ts d))))
      [ true ↦ λ o. h.1 | false ↦ λ o. at_noted k ts ns d h.2 o ]) o)

  -- the state t keeps what holds, and is narrower than s by n
  abbrev pub Step : Ledger → State → State → ℕ → Type 0
  Step b s t n = Accounted m job b t × (n + width (board t) ≤ width (board s))

  module _ (b : Ledger) (s : State) (i : Accounted m job b s) where
    same : (t : State) → t ≡ s → Step b s t 0
    same t e = subst (λ (x : State). Step b s x 0) (sym e) (i, omega arith)

    full : s.is_void ≡ false → Encloses m (Allowed job b.in_force) (cells s.rows) × (width (board s) ≡ spread s.rows)
    full e = (
      subst (λ v. Encloses m (Allowed job b.in_force) (cond v void (cells s.rows))) e i.current,
      ap (λ v. width (cond v void (cells s.rows))) e,
    )

    step_tightened : (c l h : ℕ) (t : State) → Does m s (tightened c l h) t → Step (enter (tightened c l h) b) s t 0
    step_tightened c l h t d =
        let g = tighten_granted s c l h d.0 in
        let f = full g.1 in
        let r = common (get_or s.rows c none_row) l h in
        subst (λ (x : State). Step (enter (tightened c l h) b) s x 0) (sym d.1)
        (cond_both (leb r.low r.high) _ _ (λ (x : State). Step (enter (tightened c l h) b) s x 0)
        (λ e. (
          record { current = enclosed_cut m job b.in_force s.rows c l h g.0 f.0 (leb-true r.low r.high e); trials = i.trials },
          omega (arith, spread_cut s.rows c l h),
        ))
        (λ e. (
          record { current = enclosed_none m job b.in_force s.rows c l h g.0 f.0 (leb-false r.low r.high e); trials = i.trials },
          omega arith,
        )))

    step_opened : (k : ℕ) (t : State) → Does m s (opened k) t → Step (enter (opened k) b) s t 0
    step_opened k t d = subst (λ (x : State). Step (enter (opened k) b) s x 0) (sym d.2)
        (record { current = i.current; trials = (sym d.1, i.current, i.trials) }, omega arith)

    step_kept : (k : ℕ) (t : State) → Does m s (kept k) t → Step (enter (kept k) b) s t 0
    step_kept k t d = subst (λ (x : State). Step (enter (kept k) b) s x 0) (sym d.1)
        (record { current = i.current; trials = older_noted k s.trials b.notes i.trials }, omega arith)

    step_dropped : (k : ℕ) (t : State) → Does m s (dropped k) t → Accounted m job (enter (dropped k) b) t
    step_dropped k t d =
        let o = passed (is_open k s.trials) 0 14 d.0 (omega arith) in
        subst (λ (x : State). Accounted m job (enter (dropped k) b) x) (sym d.1)
        (record { current = at_noted k s.trials b.notes _ i.trials o.0; trials = older_noted k s.trials b.notes i.trials })

    module _ (laws : FiveLaws m) where
      step_settled : (n : ℕ) (t : State) → Does m s (settled n) t → Step b s t n
      step_settled n t d =
          let f = full d.0 in
          let h = holds_applied m laws (Allowed job b.in_force) d.1 (holds f.0) in
          subst (λ (x : State). Step b s x n) (sym d.3) (record { current = encloses h.0; trials = i.trials }, omega arith)

      pub step_emptied : (n : ℕ) (t : State) → Does m s (emptied n) t → Step b s t n × (t.is_void ≡ true)
      step_emptied n t d = by s.is_void refl d
        where
          by : (v : Bool) → s.is_void ≡ v → Empties m s n t v → Step b s t n × (t.is_void ≡ true)
          by true e x = let k = same t x.1 in ((k.0, omega arith), ap (λ (y : State). y.is_void) x.1 ∙ e)
          by false e x =
              let f = full e in
              let h = holds_applied m laws (Allowed job b.in_force) x.3 (holds f.0) in
              let v = holds_narrowed m laws (Allowed job b.in_force) t.rows x.1 void x.4.listed x.5 h.0 in
              subst (λ (y : State). Step b s y n × (y.is_void ≡ true)) (sym x.6)
              ((record { current = encloses v; trials = i.trials }, omega (arith, spread_pos t.rows)), refl)

      pub accounted_step : (e : Event) (t : State) → Does m s e t → Accounted m job (enter e b) t
      accounted_step (refused c n) t d = (same t d.2).0
      accounted_step (tightened c l h) t d = (step_tightened c l h t d).0
      accounted_step (opened k) t d = (step_opened k t d).0
      accounted_step (kept k) t d = (step_kept k t d).0
      accounted_step (dropped k) t d = step_dropped k t d
      accounted_step (asked c l h) t d = (same t d.2).0
      accounted_step (settled n) t d = (step_settled n t d).0
      accounted_step (emptied n) t d = (step_emptied n t d).0.0
      accounted_step (found pr sr p) t d = (same t d.2).0
      accounted_step (none_found pr sr) t d = (same t d.2).0

      pub bound_step : (e : Event) (t : State) → Does m s e t → (y : Tally) → y.narrowings + width (board s) ≤ y.left
          → (count e t y).narrowings + width (board t) ≤ (count e t y).left
      bound_step (refused c n) t d y h = omega (arith, (same t d.2).1)
      bound_step (tightened c l v) t d y h = omega (arith, (step_tightened c l v t d).1)
      bound_step (opened k) t d y h = omega (arith, (step_opened k t d).1)
      bound_step (kept k) t d y h = omega (arith, (step_kept k t d).1)
      bound_step (dropped k) t d y h = omega arith
      bound_step (asked c l v) t d y h = omega (arith, (same t d.2).1)
      bound_step (settled n) t d y h = omega (arith, (step_settled n t d).1)
      bound_step (emptied n) t d y h = omega (arith, (step_emptied n t d).0.1)
      bound_step (found pr sr p) t d y h = omega (arith, (same t d.2).1)
      bound_step (none_found pr sr) t d y h = omega (arith, (same t d.2).1)
