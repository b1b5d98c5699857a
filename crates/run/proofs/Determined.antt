-- A call has one outcome, and so has a run of calls.
use Rattle.std.proofs.Common.{◌≡◌, ℕ, ◌+◌, ◌<◌, Bool, true, false, ◌⊎◌, List, [], ◌∷◌, map, length, get_or, sym, refl, ap, ◌∙◌, subst, ap₂, inl, inr, arith}
use Rattle.bounds.specs.declared.row.Row.{Row}
use Rattle.bounds.specs.Boards.{cells, Lies, none_row}
use Rattle.bounds.specs.Laws.{Meaning}
use Rattle.board.specs.Calls as calls
use Rattle.board.specs.Calls.{State, board, older, refusal, Event, refused, tightened, opened, kept, dropped, asked, settled, emptied, found, none_found, Does, Empties, after_tighten, after_open, after_drop, with_board, with_trials}
use Rattle.settling.specs.Plans.{First, NoPlan}
use Rattle.run.specs.Runs.{Leads, here, then, call_in}
use Rattle.run.specs.Promise.{Determined}
use Rattle.run.proofs.Paths.{still_stuck, voids_stuck, same_end}
use Rattle.run.proofs.Firsts.{first_same}

module _ (m : Meaning) (s : State) where
  -- what a granted call does
  abbrev Granted : calls.Call → Event → State → Type 0
  Granted (calls.tighten c l h) e t = (e ≡ tightened c l h) × (t ≡ after_tighten s c l h)
  Granted calls.opening e t = (e ≡ opened (s.given + 1)) × (t ≡ after_open s)
  Granted (calls.keep k) e t = (e ≡ kept k) × (t ≡ with_trials s (older k s.trials))
  Granted (calls.drop k) e t = (e ≡ dropped k) × (t ≡ after_drop s k)
  Granted (calls.ask c) e t = let r = get_or s.rows c none_row in (e ≡ asked c r.low r.high) × (t ≡ s)
  Granted calls.settle e t = (n : ℕ) × (((e ≡ settled n) × Does m s (settled n) t) ⊎ ((e ≡ emptied n) × Does m s (emptied n) t))
  Granted (calls.seek pr sr) e t =
      ((p : List ℕ) × (e ≡ found pr sr p) × First m (λ q. Lies q (board s)) p × (t ≡ s))
      ⊎ ((e ≡ none_found pr sr) × NoPlan m (λ q. Lies q (board s)) × (t ≡ s))

  abbrev Outcome : calls.Call → Event → State → Type 0
  Outcome c e t = ((0 < refusal s c) × (e ≡ refused c (refusal s c)) × (t ≡ s)) ⊎ ((refusal s c ≡ 0) × Granted c e t)

  outcome : (e : Event) (t : State) → Does m s e t → Outcome (call_in e) e t
  outcome (refused c n) t d = inl (omega (arith, d.0, d.1), ap (refused c) (sym d.0), d.2)
  outcome (tightened c l h) t d = inr (d.0, (refl, d.1))
  outcome (opened k) t d = inr (d.0, (ap opened d.1, d.2))
  outcome (kept k) t d = inr (d.0, (refl, d.1))
  outcome (dropped k) t d = inr (d.0, (refl, d.1))
  outcome (asked c l h) t d = inr (d.0, (ap (λ (r : Row). asked c r.low r.high) (sym d.1), d.2))
  outcome (settled n) t d = inr (refl, (n, inl (refl, d)))
  outcome (emptied n) t d = inr (refl, (n, inr (refl, d)))
  outcome (found pr sr p) t d = inr (d.0, inl (p, refl, d.1, d.2))
  outcome (none_found pr sr) t d = inr (d.0, inr (refl, d.1, d.2))

  settled_same : (n k : ℕ) (t u : State) → Does m s (settled n) t → Does m s (settled k) u → (n ≡ k) × (t ≡ u)
  settled_same n k t u (_, x, still, p) (_, y, still', q) =
      let e = same_end m x (still_stuck m _ still) y (still_stuck m _ still') in
      (e.0, p ∙ ap (with_board s false) e.1 ∙ sym q)

  apart : (n k : ℕ) (t u : State) → Does m s (settled n) t → Does m s (emptied k) u → ⊥
  apart n k t u (full, x, still, p) d =
      let (j, r, _, y, low, voids, q) = subst (λ v. Empties m s k u v) full d in
      let e = same_end m x (still_stuck m _ still) y (voids_stuck m _ r low voids) in
      low.moves (subst (λ (a : List Row). (m.rule r).narrowed a ≡ cells a) e.1 (still r low.listed))

  emptied_same : (v : Bool) (n k : ℕ) (t u : State) → Empties m s n t v → Empties m s k u v → (n ≡ k) × (t ≡ u)
  emptied_same true n k t u x y = (x.0 ∙ sym y.0, x.1 ∙ sym y.1)
  emptied_same false n k t u (i, q, c, x, low, voids, p) (j, r, d, y, low', voids', p') =
      let e = same_end m x (voids_stuck m _ q low voids) y (voids_stuck m _ r low' voids') in
      (omega arith, p ∙ ap (with_board s true) e.1 ∙ sym p')

  granted_same : (c : calls.Call) (e f : Event) (t u : State) → Granted c e t → Granted c f u → (e ≡ f) × (t ≡ u)
  granted_same (calls.tighten c l h) e f t u x y = (x.0 ∙ sym y.0, x.1 ∙ sym y.1)
  granted_same calls.opening e f t u x y = (x.0 ∙ sym y.0, x.1 ∙ sym y.1)
  granted_same (calls.keep k) e f t u x y = (x.0 ∙ sym y.0, x.1 ∙ sym y.1)
  granted_same (calls.drop k) e f t u x y = (x.0 ∙ sym y.0, x.1 ∙ sym y.1)
  granted_same (calls.ask c) e f t u x y = (x.0 ∙ sym y.0, x.1 ∙ sym y.1)
  granted_same calls.settle e f t u (n, inl x) (k, inl y) =
      let z = settled_same n k t u x.1 y.1 in (x.0 ∙ ap settled z.0 ∙ sym y.0, z.1)
  granted_same calls.settle e f t u (n, inl x) (k, inr y) = absurd (apart n k t u x.1 y.1)
  granted_same calls.settle e f t u (n, inr x) (k, inl y) = absurd (apart k n u t y.1 x.1)
  granted_same calls.settle e f t u (n, inr x) (k, inr y) =
      let z = emptied_same s.is_void n k t u x.1 y.1 in (x.0 ∙ ap emptied z.0 ∙ sym y.0, z.1)
  granted_same (calls.seek pr sr) e f t u (inl (p, a, g, b)) (inl (q, c, h, d)) =
      (a ∙ ap (found pr sr) (first_same m (board s) p q g h) ∙ sym c, b ∙ sym d)
  granted_same (calls.seek pr sr) e f t u (inl (p, a, g, b)) (inr y) = absurd (y.1 p g.is_plan g.is_allowed)
  granted_same (calls.seek pr sr) e f t u (inr x) (inl (q, c, h, d)) = absurd (x.1 q h.is_plan h.is_allowed)
  granted_same (calls.seek pr sr) e f t u (inr x) (inr y) = (x.0 ∙ sym y.0, x.2 ∙ sym y.2)

  outcome_same : (c : calls.Call) (e f : Event) (t u : State) → Outcome c e t → Outcome c f u → (e ≡ f) × (t ≡ u)
  outcome_same c e f t u (inl x) (inl y) = (x.1 ∙ sym y.1, x.2 ∙ sym y.2)
  outcome_same c e f t u (inl x) (inr y) = absurd (omega arith)
  outcome_same c e f t u (inr x) (inl y) = absurd (omega arith)
  outcome_same c e f t u (inr x) (inr y) = granted_same c e f t u x.1 y.1

  does_same : (e f : Event) (t u : State) → Does m s e t → Does m s f u → call_in e ≡ call_in f → (e ≡ f) × (t ≡ u)
  does_same e f t u x y same =
      outcome_same (call_in f) e f t u (subst (λ (c : calls.Call). Outcome c e t) same (outcome e t x)) (outcome f u y)

-- the last of the events that led to the state t
record Latest (m : Meaning) (start : State) (fs : List Event) (t : State) : Type 0 where
  event : Event
  events : List Event
  from : State
  listed : fs ≡ event ∷ events
  so_far : Leads m start events from
  does : Does m from event t

module _ (m : Meaning) where
  latest : {start t : State} {fs : List Event} → Leads m start fs t → ((fs ≡ []) × (t ≡ start)) ⊎ Latest m start fs t
  latest here = inl (refl, refl)
  latest (then {es = es} {s = s} run e t d) = inr (record { event = e; events = es; from = s; listed = refl; so_far = run; does = d })

  same_run : {start s : State} {es : List Event} → Leads m start es s → (fs : List Event) (t : State) → Leads m start fs t
      → map call_in es ≡ map call_in fs → (es ≡ fs) × (s ≡ t)
  same_run here fs t y e = elim (latest y) [
    | inl z ↦ (sym z.0, sym z.1)
    | inr l ↦ absurd (let n = ap length (e ∙ ap (map call_in) l.listed) in omega arith)
  ]
  same_run (then {es = es} {s = s} run e u d) fs t y h = elim (latest y) [
    | inl z ↦ absurd (let n = ap length (h ∙ ap (map call_in) z.0) in omega arith)
    | inr l ↦ let c = h ∙ ap (map call_in) l.listed in
        let before : map call_in es ≡ map call_in l.events = cc in
        let now : call_in e ≡ call_in l.event = cc in
        let k = same_run run l.events l.from l.so_far before in
        let z = does_same m l.from e l.event u t (subst (λ (x : State). Does m x e u) k.1 d) l.does now in
        (ap₂ ◌∷◌ z.0 k.0 ∙ sym l.listed, z.1)
  ]

  pub determined : Determined m
  determined start es fs s t x y e = same_run x fs t y e
