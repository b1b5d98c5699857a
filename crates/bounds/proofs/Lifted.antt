-- A rule over the cells that it names, on a whole board: its laws there from those of its own narrowing.
use Rattle.std.proofs.Common.{◌≡◌, ℕ, ◌<◌, ◌≤◌, min, Bool, true, false, ltb, List, length, get_or, sym, refl, ap, ◌∙◌, subst, inl, inr, arith}
use Rattle.std.proofs.lemmas.List.{ext_get_or}
use Rattle.std.proofs.lemmas.Bool.{cond_both, cond-true, cond-false, cases_Bool, both_ways, and_from, and_parts, and_cases, le-ltb}
use Rattle.bounds.specs.declared.row.Row.{Row}
use Rattle.bounds.specs.Boards.{Board, void, cells, sound, Real, Inside, Within, Fills, Lies, Fixed, lows, highs, none_row}
use Rattle.bounds.specs.Laws.{Rule, idle, Laws, FiveLaws, Touched, Untouched, Alike, Idempotent}
use Rattle.bounds.specs.Exact.{exact}
use Rattle.bounds.specs.Scoped.{Scoped, fits, names, distinct, gather, scatter, put, on_board, ScopedLaws, exact_on}
use Rattle.bounds.specs.Listed.{numbered}
use Rattle.bounds.proofs.Places.{low_at, high_at, fills_length, fills_at, at_fills, at_inside, inside_at, at_sound, sound_at, at_fixed, fixed_one}
use Rattle.bounds.proofs.Rows.{fills_lows, fills_highs, lows_at, highs_at, inside_length, inside_all, cells_void, cells_same}
use Rattle.bounds.proofs.Hulls.{Hull, Meeting, exact_is, hull_one}
use Rattle.bounds.proofs.Exactly.{exact_void, exact_cells, exact_again, tight_inside}
use Rattle.bounds.proofs.ExactLaws.{exact_laws}
use Rattle.bounds.proofs.Beside.{idle_laws}
use Rattle.bounds.proofs.Scopes.{fits_at, names_at, names_place, length_gather, gather_at, gather_same, gather_scatter, scatter_gather, length_scatter, scatter_both, scatter_each, scatter_free}

own_size : (cs : List ℕ) (a g : List Row) → Inside g (gather none_row cs a) → length g ≡ length cs
own_size cs a g i = inside_length g (gather none_row cs a) i ∙ length_gather none_row cs a

-- the rows and the counts of a scope that fits
module _ (cs : List ℕ) (a : List Row) (fit : fits cs (length a) ≡ true) where
  abbrev own : List Row
  own = gather none_row cs a

  own_length : length own ≡ length cs
  own_length = length_gather none_row cs a

  -- what holds of each row of the board holds of each of the scope
  own_at : (P : ℕ → Row → Type 0) → ((c : ℕ) → c < length a → P c (get_or a c none_row)) → (i : ℕ) → i < length own → P (get_or cs i 0) (get_or own i none_row)
  own_at P all i l = let k : i < length cs = omega (arith, own_length) in
      subst (P (get_or cs i 0)) (sym (gather_at none_row cs a i k)) (all (get_or cs i 0) (fits_at cs (length a) fit i k))

  pub own_sound : sound a ≡ true → sound own ≡ true
  own_sound s = at_sound own (own_at (λ _ r. r.low ≤ r.high) (sound_at a s))

  own_inside : (b : List Row) → Inside a b → Inside own (gather none_row cs b)
  own_inside b i = at_inside own (gather none_row cs b) (own_length ∙ sym (length_gather none_row cs b)) (λ j l.
      let y = gather_at none_row cs b j (omega (arith, own_length)) in
      let z = own_at (λ c r. (low_at b c ≤ r.low) × (r.high ≤ high_at b c)) (inside_at a b i) j l in
      (omega (arith, ap (λ r. r.low) y), omega (arith, ap (λ r. r.high) y)))

  own_fills : (p : List ℕ) → Fills p a → Fills (gather 0 cs p) own
  own_fills p f = at_fills (gather 0 cs p) own (length_gather 0 cs p ∙ sym own_length) (λ j l.
      rw (gather_at 0 cs p j (omega (arith, own_length)))
      (own_at (λ c r. (r.low ≤ get_or p c 0) × (get_or p c 0 ≤ r.high)) (fills_at p a f) j l))

  own_fixed : (p : List ℕ) → Fills p a → ((c : ℕ) → c < length a → names cs c ≡ true → low_at a c ≡ high_at a c) → Fixed own (gather 0 cs p)
  own_fixed p f one = at_fixed own (gather 0 cs p) (length_gather 0 cs p ∙ sym own_length) (λ j l.
      let k : j < length cs = omega (arith, own_length) in let c = get_or cs j 0 in let i = fits_at cs (length a) fit j k in
      let x = gather_at 0 cs p j k in let y = gather_at none_row cs a j k in
      let z = one c i (names_at cs j k) in let v = fills_at p a f c i in
      (omega (arith, ap (λ r. r.low) y), omega (arith, ap (λ r. r.high) y)))

  -- what a narrowing of the scope's rows gives, written back
  put_real : (n : Board) → Within n (cells own) → sound a ≡ true → Real n → Real (put cs n a)
  put_real void w s r = tt
  put_real (cells g) w s r = at_sound (scatter cs g a) (λ c l.
      scatter_each none_row (λ _ x. x.low ≤ x.high) cs g a (own_size cs a g w)
      (λ i k. sound_at g r i (omega (arith, own_size cs a g w))) (sound_at a s) c (omega (arith, length_scatter cs g a)))

  put_within : (n : Board) → Within n (cells own) → Within (put cs n a) (cells a)
  put_within void w = tt
  put_within (cells g) w = at_inside (scatter cs g a) a (length_scatter cs g a) (λ c l.
      scatter_each none_row (λ j x. (low_at a j ≤ x.low) × (x.high ≤ high_at a j)) cs g a (own_size cs a g w)
      (λ i k. let y = gather_at none_row cs a i k in let z = inside_at g own w i (omega (arith, own_size cs a g w)) in
      (omega (arith, ap (λ r. r.low) y), omega (arith, ap (λ r. r.high) y)))
      (λ j k. (omega arith, omega arith)) c (omega (arith, length_scatter cs g a)))

  put_keeps : (p : List ℕ) → Fills p a → (n : Board) → Within n (cells own) → Lies (gather 0 cs p) n → Lies p (put cs n a)
  put_keeps p f void w h = h
  put_keeps p f (cells g) w h = at_fills p (scatter cs g a) (fills_length p a f ∙ sym (length_scatter cs g a)) (λ c l.
      scatter_each none_row (λ j x. (x.low ≤ get_or p j 0) × (get_or p j 0 ≤ x.high)) cs g a (own_size cs a g w)
      (λ i k. let y = gather_at 0 cs p i k in let z = fills_at (gather 0 cs p) g h i (omega (arith, own_size cs a g w)) in (omega arith, omega arith))
      (fills_at p a f) c (omega (arith, length_scatter cs g a)))

  put_frame : (n : Board) → Within n (cells own) → (g : List Row) → put cs n a ≡ cells g
      → (c : ℕ) → c < length a → names cs c ≡ false → get_or a c none_row ≡ get_or g c none_row
  put_frame void w g e = absurd (cells_void g (sym e))
  put_frame (cells h) w g e = λ c l free. scatter_free none_row cs h a (own_size cs a h w) c l free ∙ ap (λ (x : List Row). get_or x c none_row) (cells_same _ g e)

put_monotone : (cs : List ℕ) (a b : List Row) (m n : Board) → Inside a b → Within m (cells (gather none_row cs a)) → Within n (cells (gather none_row cs b))
    → Within m n → Within (put cs m a) (put cs n b)
put_monotone cs a b void n i u v w = tt
put_monotone cs a b (cells g) void i u v w = w
put_monotone cs a b (cells g) (cells h) i u v w =
    let e = inside_length a b i in let x = length_scatter cs g a in let y = length_scatter cs h b in
    let k = own_size cs a g u in
    at_inside (scatter cs g a) (scatter cs h b) (omega arith) (λ c l.
    scatter_both none_row none_row (λ _ p q. (q.low ≤ p.low) × (p.high ≤ q.high)) cs g h a b k
    (own_size cs b h v) e (λ j o. inside_at g h w j (omega arith)) (inside_at a b i) c (omega arith))

module _ (s : Scoped) where
  abbrev lifted : Rule
  lifted = on_board s

  abbrev cs : List ℕ
  cs = s.scope

  -- the narrowing of the rows of the scope
  abbrev result : List Row → Board
  result a = s.narrowing (gather none_row cs a)

  fitting : (a : List Row) → fits cs (length a) ≡ true → lifted.narrowed a ≡ put cs (result a) a
  fitting a f = cond-true _ _ _ f

  missing : (a : List Row) → fits cs (length a) ≡ false → lifted.narrowed a ≡ cells a
  missing a f = cond-false _ _ _ f

  -- a rule whose own narrowing is quiet is quiet on the board
  pub lifted_quiet : (a : List Row) → fits cs (length a) ≡ true → result a ≡ cells (gather none_row cs a) → lifted.narrowed a ≡ cells a
  lifted_quiet a f e = fitting a f ∙ ap (λ n. put cs n a) e ∙ ap (λ (x : List Row). cells x) (scatter_gather none_row cs a)

  put_alike : (n : Board) (a b : List Row) → Within n (cells (gather none_row cs a)) → length a ≡ length b
      → ((c : ℕ) → c < length a → names cs c ≡ true → get_or a c none_row ≡ get_or b c none_row) → Alike lifted (put cs n a) (put cs n b)
  put_alike void a b w e same = tt
  put_alike (cells g) a b w e same = λ c l t.
      let k = own_size cs a g w in
      scatter_both none_row none_row (λ j x y. names cs j ≡ true → x ≡ y) cs g g a b k k e (λ _ _ _. refl) same
      c (omega (arith, length_scatter cs g a)) (and_parts (fits cs _) (names cs c) t).1

  fits_same : (m n : ℕ) → m ≡ n → fits cs m ≡ true → fits cs n ≡ true
  fits_same m n e f = ap (fits cs) (sym e) ∙ f

  touched : (n c : ℕ) → fits cs n ≡ true → names cs c ≡ true → lifted.touches n c ≡ true
  touched n c f k = and_from (fits cs n) (names cs c) f k

  module _ (law : ScopedLaws s) where
    inner : (a : List Row) → sound a ≡ true → fits cs (length a) ≡ true → Within (result a) (cells (gather none_row cs a))
    inner a t f = law.within _ (own_length cs a f) (own_sound cs a f t)

    lifted_monotone : (a b : List Row) → sound a ≡ true → sound b ≡ true → Inside a b → Within (lifted.narrowed a) (lifted.narrowed b)
    lifted_monotone a b t u i = elim (cases_Bool (fits cs (length a))) [
      | inl f ↦ let k = fits_same _ _ (inside_length a b i) f in
          rw (fitting a f, fitting b k) (put_monotone cs a b (result a) (result b) i (inner a t f) (inner b u k)
          (law.monotone _ _ (own_length cs a f) (own_length cs b k) (own_sound cs a f t) (own_sound cs b k u) (own_inside cs a f b i)))
      | inr f ↦ rw (missing a f, missing b (ap (fits cs) (sym (inside_length a b i)) ∙ f)) i
    ]

    lifted_keeps : (a : List Row) (p : List ℕ) → sound a ≡ true → Fills p a → lifted.meets p ≡ true → Lies p (lifted.narrowed a)
    lifted_keeps a p t l m = cond_both (fits cs (length a)) _ _ (λ b. Lies p b)
        (λ f. put_keeps cs a f p l (result a) (inner a t f) (law.keeps _ _ (own_length cs a f) (own_sound cs a f t) (own_fills cs a f p l)
        (sym (cond-true _ _ _ (fits_same _ _ (sym (fills_length p a l)) f)) ∙ m)))
        (λ _. l)

    lifted_rejects : (a : List Row) (p : List ℕ) → Fills p a → Touched lifted a a (λ x y. x.low ≡ x.high) → lifted.meets p ≡ false → lifted.narrowed a ≡ void
    lifted_rejects a p l one m = elim (cases_Bool (fits cs (length a))) [
      | inl f ↦ fitting a f ∙ ap (λ n. put cs n a) (law.rejects _ _ (own_length cs a f)
          (own_fixed cs a f p l (λ c k n. one c k (touched _ c f n))) (sym (cond-true _ _ _ (fits_same _ _ (sym (fills_length p a l)) f)) ∙ m))
      | inr f ↦ absurd (both_ways _ m (cond-false _ _ _ (ap (fits cs) (fills_length p a l) ∙ f)))
    ]

    lifted_meets : (p q : List ℕ) → length p ≡ length q
        → ((c : ℕ) → c < length p → lifted.touches (length p) c ≡ true → get_or p c 0 ≡ get_or q c 0) → lifted.meets p ≡ lifted.meets q
    lifted_meets p q e same = elim (cases_Bool (fits cs (length p))) [
      | inl f ↦ cond-true _ _ _ f ∙ ap s.relation (gather_same 0 cs p q (length p) f (λ c l n. same c l (touched _ c f n)))
          ∙ sym (cond-true _ _ _ (fits_same _ _ e f))
      | inr f ↦ cond-false _ _ _ f ∙ sym (cond-false _ _ _ (ap (fits cs) (sym e) ∙ f))
    ]

    lifted_frame : (a g : List Row) → sound a ≡ true → lifted.narrowed a ≡ cells g → Untouched lifted a g
    lifted_frame a g t e c l n = elim (cases_Bool (fits cs (length a))) [
      | inl f ↦ put_frame cs a f (result a) (inner a t f) g (sym (fitting a f) ∙ e) c l
          (elim (and_cases _ _ n) [ inl x ↦ absurd (both_ways _ x f) | inr x ↦ x ])
      | inr f ↦ ap (λ (x : List Row). get_or x c none_row) (cells_same a g (sym (missing a f) ∙ e))
    ]

    lifted_end : (a b : List Row) → sound a ≡ true → length a ≡ length b → Touched lifted a b (λ x y. x ≡ y)
        → Alike lifted (lifted.narrowed a) (lifted.narrowed b)
    lifted_end a b t e same = elim (cases_Bool (fits cs (length a))) [
      | inl f ↦ let near : (c : ℕ) → c < length a → names cs c ≡ true → get_or a c none_row ≡ get_or b c none_row = λ c l n. same c l (touched (length a) c f n) in
          let x = fitting b (fits_same _ _ e f) ∙ ap (λ g. put cs (s.narrowing g) b) (sym (gather_same none_row cs a b (length a) f near)) in
          rw (fitting a f, x) (put_alike (result a) a b (inner a t f) e near)
      | inr f ↦ rw (missing a f, missing b (ap (fits cs) (sym e) ∙ f)) same
    ]

    pub lifted_laws : Laws lifted
    lifted_laws = record {
      real = λ a t. cond_both (fits cs (length a)) _ _ Real
          (λ f. put_real cs a f (result a) (inner a t f) t (law.real _ (own_length cs a f) (own_sound cs a f t))) (λ _. t);
      within = λ a t. cond_both (fits cs (length a)) _ _ (λ b. Within b (cells a))
          (λ f. put_within cs a f (result a) (inner a t f)) (λ _. inside_all a a t (λ p f. f));
      monotone = lifted_monotone;
      keeps = lifted_keeps;
      decides = λ a p t l one. (
        λ e. elim (cases_Bool (lifted.meets p)) [ inl m ↦ absurd (subst (Lies p) e (lifted_keeps a p t l m)) | inr m ↦ m ],
        lifted_rejects a p l one,
      );
      local_meets = lifted_meets;
      local_frame = lifted_frame;
      local_end = λ a b t u e same. lifted_end a b t e same;
    }

-- exact on its own cells, and none named twice: exact on the board
module _ (cs : List ℕ) (relation : List ℕ → Bool) (a : List Row) (once : distinct cs ≡ true) (t : sound a ≡ true) where
  abbrev meets : List ℕ → Bool
  meets = (on_board (exact_on cs relation)).meets

  idle_exact : fits cs (length a) ≡ false → exact meets a ≡ cells a
  idle_exact f =
      let all : (p : List ℕ) → Fills p a → Meeting meets a p = λ p l. (l, cond-false _ _ _ (ap (fits cs) (fills_length p a l) ∙ f)) in
      let low = all (lows a) (fills_lows a t) in let high = all (highs a) (fills_highs a t) in
      (exact_cells meets a a).1 (record {
        one = (lows a, low);
        holds = λ p m. m.0;
        lowest = λ c _. (lows a, low, lows_at a c);
        highest = λ c _. (highs a, high, highs_at a c);
      })

  module _ (fit : fits cs (length a) ≡ true) where
    abbrev rows : List Row
    rows = gather none_row cs a

    -- what a filling that meets the rule has in the scope
    inward : (p : List ℕ) → Meeting meets a p → Meeting relation rows (gather 0 cs p)
    inward p m = (own_fills cs a fit p m.0, sym (cond-true _ _ _ (ap (fits cs) (fills_length p a m.0) ∙ fit)) ∙ m.1)

    -- counts of the scope that meet the rule, with any counts in the other cells
    module _ (q : List ℕ) (m : Meeting relation rows q) (rest : List ℕ) (l : Fills rest a) where
      abbrev whole : List ℕ
      whole = scatter cs q rest

      whole_size : length q ≡ length cs
      whole_size = fills_length q rows m.0 ∙ length_gather none_row cs a

      whole_fit : fits cs (length rest) ≡ true
      whole_fit = ap (fits cs) (fills_length rest a l) ∙ fit

      outward : Meeting meets a whole
      outward = (
        at_fills whole a (length_scatter cs q rest ∙ fills_length rest a l) (λ c k.
            scatter_each 0 (λ j x. (low_at a j ≤ x) × (x ≤ high_at a j)) cs q rest whole_size
            (λ i o. let y = gather_at none_row cs a i o in let z = fills_at q rows m.0 i (omega (arith, length_gather none_row cs a)) in
            (omega (arith, ap (λ r. r.low) y), omega (arith, ap (λ r. r.high) y)))
            (λ j o. fills_at rest a l j (omega (arith, fills_length rest a l))) c (omega (arith, fills_length rest a l))),
        cond-true _ _ _ (ap (fits cs) (length_scatter cs q rest) ∙ whole_fit) ∙ ap relation (gather_scatter 0 cs q rest once whole_fit whole_size) ∙ m.1,
      )

      whole_at : (i : ℕ) → i < length cs → get_or whole (get_or cs i 0) 0 ≡ get_or q i 0
      whole_at i o = sym (gather_at 0 cs whole i o) ∙ ap (λ (x : List ℕ). get_or x i 0) (gather_scatter 0 cs q rest once whole_fit whole_size)

    -- where a bound of each row of the scope is attained, so is that of each row of the board
    attained : (bound : Row → ℕ) (rest : List ℕ) → Fills rest a → ((c : ℕ) → get_or rest c 0 ≡ bound (get_or a c none_row))
        → (g : List Row) → length g ≡ length cs → (q : List ℕ) × Meeting relation rows q
        → ((i : ℕ) → i < length g → (q : List ℕ) × Meeting relation rows q × (get_or q i 0 ≡ bound (get_or g i none_row)))
        → (c : ℕ) → c < length (scatter cs g a) → (p : List ℕ) × Meeting meets a p × (get_or p c 0 ≡ bound (get_or (scatter cs g a) c none_row))
    attained bound rest l ends g e one own c k = elim (cases_Bool (names cs c)) [
      | inl n ↦ let (i, o, x) = names_place cs c n in let (q, m, y) = own i (omega arith) in
          let z = gather_scatter none_row cs g a once fit e in (
            scatter cs q rest,
            outward q m rest l,
            subst (λ j. get_or (scatter cs q rest) j 0 ≡ bound (get_or (scatter cs g a) j none_row)) x
                (whole_at q m rest l i o ∙ y ∙ ap bound (ap (λ (v : List Row). get_or v i none_row) (sym z) ∙ gather_at none_row cs (scatter cs g a) i o)),
          )
      | inr n ↦ let (q, m) = one in (
        scatter cs q rest,
        outward q m rest l,
        sym (scatter_free 0 cs q rest (whole_size q m rest l) c (omega (arith, fills_length rest a l, length_scatter cs g a)) n)
            ∙ ends c ∙ ap bound (scatter_free none_row cs g a e c (omega (arith, length_scatter cs g a)) n),
      )
    ]

    whole_hull : (n : Board) → Hull (Meeting relation rows) n → Hull (Meeting meets a) (put cs n a)
    whole_hull void h = λ p m. h (gather 0 cs p) (inward p m)
    whole_hull (cells g) h =
        let i = tight_inside relation rows g h in
        let e = own_size cs a g i in
        record {
          one = let (q, m) = h.one in (scatter cs q (lows a), outward q m (lows a) (fills_lows a t));
          holds = λ p m. put_keeps cs a fit p m.0 (cells g) i (h.holds (gather 0 cs p) (inward p m));
          lowest = attained (λ r. r.low) (lows a) (fills_lows a t) (lows_at a) g e h.one h.lowest;
          highest = attained (λ r. r.high) (highs a) (fills_highs a t) (highs_at a) g e h.one h.highest;
        }

  pub lifted_exact : (on_board (exact_on cs relation)).narrowed a ≡ exact meets a
  lifted_exact = elim (cases_Bool (fits cs (length a))) [
    | inl f ↦ cond-true _ _ _ f ∙ hull_one (Meeting meets a) _ _ (whole_hull f (exact relation (gather none_row cs a)) (exact_is relation (gather none_row cs a))) (exact_is meets a)
    | inr f ↦ cond-false _ _ _ f ∙ sym (idle_exact f)
  ]

pub exact_on_laws : (scope : List ℕ) (relation : List ℕ → Bool) → ScopedLaws (exact_on scope relation)
exact_on_laws scope relation =
    let law = exact_laws relation (λ _ _. true) (λ p q e same. ap relation (ext_get_or 0 p q e (λ c l. same c l refl))) in
    record {
      real = λ a e t. law.real a t;
      within = λ a e t. law.within a t;
      monotone = λ a b e k t u i. law.monotone a b t u i;
      keeps = λ a p e t f m. law.keeps a p t f m;
      rejects = λ a p e f n. (exact_void relation a).1 (λ q m. both_ways (relation p) n (ap relation (fixed_one a p q f m.0) ∙ m.1));
    }

pub lifted_idempotent : (scope : List ℕ) (relation : List ℕ → Bool) → distinct scope ≡ true → Idempotent (on_board (exact_on scope relation))
lifted_idempotent scope relation once a b t e =
    let u = subst Real e ((lifted_laws (exact_on scope relation) (exact_on_laws scope relation)).real a t) in
    lifted_exact scope relation b once u ∙ exact_again (on_board (exact_on scope relation)).meets a b (sym (lifted_exact scope relation a once t) ∙ e)

pub numbered_lawful : (size : ℕ) (at : ℕ → Scoped) → ((r : ℕ) → ScopedLaws (at r)) → FiveLaws (numbered size at)
numbered_lawful size at laws =
    let n = min 4096 size in
    record {
      few = omega arith;
      each = λ r. cond_both (ltb r n) _ _ (λ (u : Rule). Laws u) (λ _. lifted_laws (at r) (laws r)) (λ _. idle_laws);
      beyond = λ r l. cond-false (ltb r n) _ idle (le-ltb r n l);
    }
