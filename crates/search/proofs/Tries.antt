-- The steps of a search: a leaf, a try of the lowest count of a cell, and the next count.
use Rattle.std.proofs.Common.{◌≡◌, ℕ, zero, suc, ◌+◌, ◌-◌, ◌*◌, ◌<◌, ◌≤◌, Bool, true, false, cond, not, eqb, ltb, ◌≢◌, List, [], ◌∷◌, length, get_or, take, drop, set, position, Some, None, sym, refl, ap, ◌∙◌, subst, inl, inr, mul-le-mul_right, add-mul, arith, length-set}
use Rattle.std.proofs.lemmas.Bool.{cases_eq, eqb-true, eq-eqb, not-false, ltb-false, true≢false}
use Rattle.std.proofs.lemmas.Bool.Decides.{nat_tests}
use Rattle.std.proofs.lemmas.Option.{none-some}
use Rattle.std.proofs.lemmas.List.Sums.{sum_by-cons, sum_by-set, fails_before_first}
use Rattle.std.proofs.lemmas.List.Quantifiers.{position-Some}
use Rattle.std.specs.List.{position_or_len}
use Rattle.bounds.specs.declared.row.Row.{Row}
use Rattle.bounds.specs.Boards.{Board, cells, sound, Inside, Fills, Fixed, Lies, spread, lows, none_row}
use Rattle.bounds.specs.Laws.{Meaning, FiveLaws}
use Rattle.bounds.proofs.Places.{low_at, high_at, same_row, sound_at, fills_at, fills_inside}
use Rattle.bounds.proofs.Rows.{fills_lows, inside_all, cut, fills_cut, cut_fills, sound_set, spread_inside}
use Rattle.settling.specs.declared.settled.Settled.TheVariants.{Settled, Void}
use Rattle.settling.specs.declared.watchers.Watchers.{Watchers}
use Rattle.settling.specs.declared.folded.FoldedWatchers.{FoldedWatchers}
use Rattle.settling.specs.Asleep.{Asleep, AsleepBut}
use Rattle.settling.specs.Watching.{Watching, watching}
use Rattle.settling.specs.Folded.{FoldedWatching}
use Rattle.settling.specs.Plans.{First, Before, NoPlan, Still}
use Rattle.settling.proofs.Sleeps.{stirs_listed, stirs_folded}
use Rattle.settling.specs.Settles.{Settles}
use Rattle.settling.proofs.Applied.{Keeps, applied_keeps}
use Rattle.search.specs.Seeks.{is_open, opens, fixed_at, raised_at, Searched}
use Rattle.search.proofs.Leaves.{fixed_plan}

abbrev pub NoneIn : Meaning → List Row → Type 0
NoneIn m a = NoPlan m (λ p. Fills p a)

-- the cells below c are fixed
abbrev pub FixedBelow : List Row → ℕ → Type 0
FixedBelow a c = (k : ℕ) → k < c → low_at a k ≡ high_at a k

-- c is the first open cell of the rows a, which come from b
pub record Node (m : Meaning) (b a : List Row) (c : ℕ) : Type 0 where
  pub kept : Keeps m b a
  pub len : length a ≡ length b
  pub here : c < length a
  pub apart : low_at a c ≢ high_at a c
  pub below : FixedBelow a c
  pub quiet : Still m (cells a)

abbrev pub FirstIn : Meaning → List Row → List ℕ → Type 0
FirstIn m a p = First m (λ q. Fills q a) p

fixed_lows : (a : List Row) → FixedBelow a (length a) → Fixed a (lows a)
fixed_lows [] h = tt
fixed_lows (r ∷ a) h = (refl, sym (h 0 (omega arith)), fixed_lows a (λ k l. h (suc k) (omega arith)))

lows_first : (q : List ℕ) (a : List Row) → Fills q a → Before q (lows a) → ⊥
lows_first [] a f b = b
lows_first (n ∷ q) [] f b = b
lows_first (n ∷ q) (r ∷ a) f b = elim b [ inl l ↦ omega arith | inr e ↦ lows_first q a f.2 e.1 ]

-- of two fillings that agree below c, the one with the lower count there comes first
later : (q p : List ℕ) (a : List Row) (c : ℕ) → c < length a → Fills q a → Fills p a → FixedBelow a c → get_or p c 0 < get_or q c 0 → Before q p → ⊥
later [] p a c l f g h k b = b
later (y ∷ q) [] a c l f g h k b = b
later (y ∷ q) (x ∷ p) [] c l f g h k b = f
later (y ∷ q) (x ∷ p) (r ∷ a) zero l f g h k b = elim b [ inl e ↦ omega arith | inr e ↦ omega arith ]
later (y ∷ q) (x ∷ p) (r ∷ a) (suc c) l f g h k b =
    elim b [
      | inl e ↦ omega (arith, h 0 (omega arith))
      | inr e ↦ later q p a c (omega arith) f.2 g.2 (λ i j. h (suc i) (omega arith)) k e.1
    ]

is_fixed : (r : Row) → is_open r ≡ false → r.low ≡ r.high
is_fixed r h = eqb-true r.low r.high (not-false (eqb r.low r.high) h)

is_apart : (r : Row) → is_open r ≡ true → r.low ≢ r.high
is_apart r h e = true≢false (sym h ∙ ap not (eq-eqb r.low r.high e))

not_some : (b : Bool) (n : ℕ) → cond b (Some n) None ≡ None → b ≡ false
not_some true n e = absurd (none-some n (sym e))
not_some false n e = refl

none_open : (a : List Row) → position is_open a ≡ None → FixedBelow a (length a)
none_open a e k l =
    let n = position_or_len is_open a in
    let past = ltb-false n (length a) (not_some (ltb n (length a)) n e) in
    is_fixed (get_or a k none_row) (fails_before_first is_open a k none_row (omega arith))

opens_cons : (r : Row) (a : List Row) → opens (r ∷ a) ≡ cond (ltb r.low r.high) 1 0 + opens a
opens_cons r a = sum_by-cons (λ (x : Row). cond (ltb x.low x.high) 1 0) r a

pub opens_inside : (a b : List Row) → Inside a b → opens a ≤ opens b
opens_inside [] [] h = omega arith
opens_inside [] (y ∷ b) h = absurd h
opens_inside (x ∷ a) [] h = absurd h
opens_inside (x ∷ a) (y ∷ b) h = rw (opens_cons x a, opens_cons y b) (grind (arith, nat_tests, opens_inside a b h.2))

level_room : (k n o r : ℕ) → o + 1 ≤ k → k * n ≤ r → o * n + n ≤ r
level_room k n o r l h = omega (arith, mul-le-mul_right n l, add-mul o 1 n)

width_at : (a : List Row) (c : ℕ) (r : Row) → c < length a → spread (set a c r) + (high_at a c - low_at a c) ≡ spread a + (r.high - r.low)
width_at a c r l = omega (arith, sum_by-set (λ (x : Row). x.high - x.low) a c r none_row l)

fixed_opens : (a : List Row) (c : ℕ) → c < length a → low_at a c < high_at a c → opens (fixed_at a c) + 1 ≡ opens a
fixed_opens a c l o =
    let e = sum_by-set (λ (x : Row). cond (ltb x.low x.high) 1 0) a c (record { low = low_at a c; high = low_at a c }) none_row l in
    grind (arith, nat_tests)

fixed_spread : (a : List Row) (c : ℕ) → c < length a → low_at a c < high_at a c → spread (fixed_at a c) < spread a
fixed_spread a c l o = omega (arith, width_at a c (record { low = low_at a c; high = low_at a c }) l)

raised_spread : (a : List Row) (c : ℕ) → c < length a → low_at a c < high_at a c → spread (raised_at a c) < spread a
raised_spread a c l o = omega (arith, width_at a c (record { low = low_at a c + 1; high = high_at a c }) l)

module _ (m : Meaning) where
  pub keeps_same : (a : List Row) → sound a ≡ true → Keeps m a a
  keeps_same a s = record { still_sound = s; inside = inside_all a a s (λ p f. f); plans = λ p pl f. f }

  keeps_on : (a b c : List Row) → Keeps m a b → Keeps m b c → Keeps m a c
  keeps_on a b c k l = record {
    still_sound = l.still_sound;
    inside = inside_all c a l.still_sound (λ p f. fills_inside p b a k.inside (fills_inside p c b l.inside f));
    plans = λ p pl f. l.plans p pl (k.plans p pl f);
  }

  first_kept : (a b : List Row) (p : List ℕ) → Keeps m a b → FirstIn m b p → FirstIn m a p
  first_kept a b p k first = record {
    is_plan = first.is_plan;
    is_allowed = fills_inside p b a k.inside first.is_allowed;
    no_earlier = λ q pl f. first.no_earlier q pl (k.plans q pl f);
  }

  -- what is found in rows that lost no plan is found in those before
  pub searched_kept : (a b : List Row) (p q : List ℕ) (r : Bool) → Keeps m a b → length b ≡ length a → Searched m b p q r → Searched m a p q r
  searched_kept a b p q true k e (first, back) =
      subst (λ (j : ℕ). FirstIn m a (take j q) × (drop j q ≡ drop j p)) e (first_kept a b _ k first, back)
  searched_kept a b p q false k e (none, same) = (λ x pl f. none x pl (k.plans x pl f), same)

-- a level of the search: the rows that it began with, as they are before a settle, and as that leaves them
module _ (m : Meaning) (laws : FiveLaws m) (b l a : List Row) (n : ℕ) (k : Keeps m b l) (e : length l ≡ length b) where
  pub none_voided : Settles m l a (Void n) → NoneIn m b
  none_voided ((i, r, _, app, lowest, voids), s, _) p pl f =
      let g = (applied_keeps m laws k.still_sound app).plans p pl (k.plans p pl f) in
      subst (λ (x : Board). Lies p x) voids ((laws.each r).keeps a p s g (pl r lowest.listed))

  pub leaf_found : Settles m l a (Settled n) → None ≡ position is_open a → (p q : List ℕ) → take (length a) q ≡ lows a → drop (length a) q ≡ drop (length a) p
      → Searched m b p q true
  leaf_found (app, quiet, s, len) none p q front back =
      let first : FirstIn m a (lows a) = record {
        is_plan = fixed_plan m laws a s quiet (lows a) (fixed_lows a (none_open a (sym none)));
        is_allowed = fills_lows a s;
        no_earlier = λ x pl f. lows_first x a f;
      } in
      subst (λ (j : ℕ). FirstIn m b (take j q) × (drop j q ≡ drop j p)) (len ∙ e)
      (subst (FirstIn m b) (sym front) (first_kept m b a _ (keeps_on m b l a k (applied_keeps m laws k.still_sound app)) first), back)

  pub node : Settles m l a (Settled n) → (c : ℕ) → Some c ≡ position is_open a → Node m b a c
  node (app, quiet, s, len) c first =
      let at = position-Some is_open a c none_row (sym first) in
      record {
        kept = keeps_on m b l a k (applied_keeps m laws k.still_sound app);
        len = len ∙ e;
        here = at.0;
        apart = is_apart (get_or a c none_row) at.1;
        below = λ i lt. is_fixed (get_or a i none_row) (at.2 i lt);
        quiet = quiet;
      }

module _ (m : Meaning) (b a : List Row) (c : ℕ) (d : Node m b a c) where
  pub lower : low_at a c < high_at a c
  lower = let k = sound_at a d.kept.still_sound c d.here in let n = d.apart in omega arith

  pub fixed_sound : sound (fixed_at a c) ≡ true
  fixed_sound = sound_set a c _ d.kept.still_sound (omega arith)

  pub fixed_length : length (fixed_at a c) ≡ length b
  fixed_length = length-set a c _ ∙ d.len

  pub fixed_narrower : spread (fixed_at a c) < spread b
  fixed_narrower = omega (arith, fixed_spread a c d.here lower, spread_inside a b d.kept.inside)

  pub raised_narrower : spread (raised_at a c) < spread a
  raised_narrower = raised_spread a c d.here lower

  -- only the rules that are listed with the cell may narrow the try, and what is left
  module _ (laws : FiveLaws m) (w : Watchers) (at : Watching m (length b) w) where
    pub fixed_asleep : Asleep m (fixed_at a c) (watching w c)
    fixed_asleep = stirs_listed m laws a c _ w (length b) at d.kept.still_sound d.len d.quiet (omega (arith, d.here, d.len)) fixed_sound

    pub raised_asleep : Asleep m (raised_at a c) (watching w c)
    raised_asleep = let o = lower in
        stirs_listed m laws a c _ w (length b) at d.kept.still_sound d.len d.quiet (omega (arith, d.here, d.len)) (sound_set a c _ d.kept.still_sound (omega arith))

  -- the same of a folded table
  module _ (laws : FiveLaws m) {C R : ℕ} (w : FoldedWatchers C R) (at : FoldedWatching m (length b) w) where
    pub fixed_folded : AsleepBut m w (Some c) (fixed_at a c)
    fixed_folded = stirs_folded m laws a c _ w (length b) at d.kept.still_sound d.len d.quiet (omega (arith, d.here, d.len)) fixed_sound

    pub raised_folded : AsleepBut m w (Some c) (raised_at a c)
    raised_folded = let o = lower in
        stirs_folded m laws a c _ w (length b) at d.kept.still_sound d.len d.quiet (omega (arith, d.here, d.len)) (sound_set a c _ d.kept.still_sound (omega arith))

  -- the rest has room for the try and for what it needs in turn
  pub tried_room : (r : ℕ) → opens b * length b ≤ r → opens (fixed_at a c) * length b + length b ≤ r
  tried_room r h =
      level_room (opens b) (length b) (opens (fixed_at a c)) r (omega (arith, fixed_opens a c d.here lower, opens_inside a b d.kept.inside)) h

  fixed_is : fixed_at a c ≡ cut a c 0 (low_at a c)
  fixed_is = let o = lower in ap (λ (r : Row). set a c r) (same_row _ _ (omega arith) (omega arith))

  raised_is : raised_at a c ≡ cut a c (low_at a c + 1) (high_at a c)
  raised_is = let o = lower in ap (λ (r : Row). set a c r) (same_row _ _ (omega arith) (omega arith))

  fixed_fills : (p : List ℕ) → Fills p a → get_or p c 0 ≡ low_at a c → Fills p (fixed_at a c)
  fixed_fills p f e = subst (Fills p) (sym fixed_is) (fills_cut p a c 0 (low_at a c) f (omega arith) (omega arith))

  fills_fixed : (p : List ℕ) → Fills p (fixed_at a c) → Fills p a × (get_or p c 0 ≡ low_at a c)
  fills_fixed p f =
      let k = cut_fills p a c 0 (low_at a c) d.here (subst (Fills p) fixed_is f) in
      (k.0, omega (arith, fills_at p a k.0 c d.here))

  -- a try with no plan takes the lowest count away
  raised_keeps : NoneIn m (fixed_at a c) → Keeps m a (raised_at a c)
  raised_keeps none =
      let o = lower in
      let r : sound (raised_at a c) ≡ true = sound_set a c _ d.kept.still_sound (omega arith) in
      record {
        still_sound = r;
        inside = inside_all (raised_at a c) a r
            (λ p f. (cut_fills p a c (low_at a c + 1) (high_at a c) d.here (subst (Fills p) raised_is f)).0);
        plans = λ p pl f. let k = fills_at p a f c d.here in elim (cases_eq (get_or p c 0) (low_at a c)) [
          | inl e ↦ absurd (none p pl (fixed_fills p f e))
          | inr n ↦ subst (Fills p) (sym raised_is) (fills_cut p a c (low_at a c + 1) (high_at a c) f (omega arith) (omega arith))
        ];
      }

  -- a try's first plan is the first
  first_tried : (p : List ℕ) → FirstIn m (fixed_at a c) p → FirstIn m a p
  first_tried p first =
      let g = fills_fixed p first.is_allowed in
      record {
        is_plan = first.is_plan;
        is_allowed = g.0;
        no_earlier = λ q pl f z. elim (cases_eq (get_or q c 0) (low_at a c)) [
          | inl e ↦ first.no_earlier q pl (fixed_fills q f e) z
          | inr n ↦ later q p a c d.here f g.0 d.below (omega (arith, fills_at q a f c d.here)) z
        ];
      }

  module _ (x : List Row) (is : x ≡ fixed_at a c) (p p' q : List ℕ) (same : p ≡ p') where
    pub try_found : Searched m x p q true → Searched m b p' q true
    try_found h =
        let f = subst (λ (y : List Row). FirstIn m y (take (length x) q)) is h.0 in
        subst (λ (l : ℕ). FirstIn m b (take l q) × (drop l q ≡ drop l p')) (ap length is ∙ fixed_length)
        (first_kept m b a _ d.kept (first_tried _ f), h.1 ∙ ap (drop (length x)) same)

    pub try_none : Searched m x p q false → Keeps m b (raised_at a c) × (q ≡ p')
    try_none h = (keeps_on m b a (raised_at a c) d.kept (raised_keeps (subst (NoneIn m) is h.0)), h.1 ∙ same)
