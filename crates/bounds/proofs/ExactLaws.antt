-- The five laws of a family whose narrowings are exact.
use Rattle.std.proofs.Common.{◌≡◌, ℕ, ◌<◌, ◌≤◌, Bool, true, false, cond, List, map, length, get_or, sym, refl, ap, ◌∙◌, inl, inr, arith}
use Rattle.std.specs.List.{range_with_len}
use Rattle.std.proofs.lemmas.List.FromFn.{length-map-range_with_len, get_or-map-range_with_len}
use Rattle.std.proofs.lemmas.Bool.{cond_both, cond-true, cond-false, cases_Bool, both_ways}
use Rattle.bounds.specs.declared.row.Row.{Row}
use Rattle.bounds.specs.Boards.{Board, void, cells, sound, Fills, none_row}
use Rattle.bounds.specs.Laws.{Rule, Laws, Alike}
use Rattle.bounds.specs.Exact.{Local, exactly}
use Rattle.bounds.proofs.Places.{low_at, high_at, same_row, fills_length, fills_at, at_fills, fills_inside, sound_at}
use Rattle.bounds.proofs.Hulls.{Tight, Hull, Meeting, exact_is, narrowest, hull_holds, hull_real}
use Rattle.bounds.proofs.Exactly.{exact_void, exact_cells, tight_length}

-- the touched rows of a are those of b
abbrev Same : (ℕ → ℕ → Bool) → List Row → List Row → Type 0
Same touches a b = (c : ℕ) → c < length a → touches (length a) c ≡ true → get_or a c none_row ≡ get_or b c none_row

-- a way to pick a count of a row
abbrev Picks : (Row → ℕ) → Type 0
Picks pick = (s : Row) → s.low ≤ s.high → (s.low ≤ pick s) × (pick s ≤ s.high)

-- the counts of p in the touched cells, and counts picked from the rows in the others
mixed : (ℕ → Bool) → (Row → ℕ) → List Row → List ℕ → List ℕ
mixed t pick b p = map (λ c. cond (t c) (get_or p c 0) (pick (get_or b c none_row))) (range_with_len 0 (length b))

module _ (t : ℕ → Bool) (pick : Row → ℕ) (b : List Row) (p : List ℕ) where
  mixed_length : length (mixed t pick b p) ≡ length b
  unfolding mixed
  mixed_length = length-map-range_with_len _ 0 (length b)

  mixed_at : (c : ℕ) → c < length b → get_or (mixed t pick b p) c 0 ≡ cond (t c) (get_or p c 0) (pick (get_or b c none_row))
  unfolding mixed
  mixed_at c h = get_or-map-range_with_len _ 0 (length b) c c 0 h (omega arith)

module _ (meets : List ℕ → Bool) (touches : ℕ → ℕ → Bool) (local : Local meets touches) where
  at_length : (m n c : ℕ) → m ≡ n → touches m c ≡ true → touches n c ≡ true
  at_length m n c e t = ap (λ i. touches i c) (sym e) ∙ t

  -- a meeting filling of a is one of b if the touched rows are the same, with counts picked from b in the other cells
  moved : (pick : Row → ℕ) → Picks pick → (a b : List Row) → sound b ≡ true → length a ≡ length b → Same touches a b
      → (p : List ℕ) → Meeting meets a p → Meeting meets b (mixed (touches (length a)) pick b p)
  moved pick picks a b s e same p m =
      let k = fills_length p a m.0 in
      let t = touches (length a) in
      let n = mixed_length t pick b p in (
        at_fills (mixed t pick b p) b n (λ c h. rw (mixed_at t pick b p c h)
            (cond_both (t c) _ _ (λ x. (low_at b c ≤ x) × (x ≤ high_at b c))
            (λ u. let v = same c (omega arith) u in let f = fills_at p a m.0 c (omega arith) in
            (omega (arith, ap (λ x. x.low) v), omega (arith, ap (λ x. x.high) v)))
            (λ _. picks (get_or b c none_row) (sound_at b s c h)))),
        sym (local p (mixed t pick b p) (omega arith) (λ c h u.
            sym (mixed_at t pick b p c (omega arith) ∙ cond-true _ _ _ (at_length _ _ c k u)))) ∙ m.1,
      )

  lows : Picks (λ x. x.low)
  lows x k = (omega arith, k)

  highs : Picks (λ x. x.high)
  highs x k = (k, omega arith)

  -- where the touched rows of a and b are the same, a touched cell of a's hull is within that of b's
  follows : (a b : List Row) → sound b ≡ true → length a ≡ length b → Same touches a b
      → (g h : List Row) → Tight (Meeting meets a) g → Tight (Meeting meets b) h
      → (c : ℕ) → c < length a → touches (length a) c ≡ true → (low_at h c ≤ low_at g c) × (high_at g c ≤ high_at h c)
  follows a b s e same g h t u c l touched =
      let within : (p : List ℕ) → Meeting meets a p → (low_at h c ≤ get_or p c 0) × (get_or p c 0 ≤ high_at h c) = λ p m.
      let q = mixed (touches (length a)) (λ x. x.low) b p in
      let f = fills_at q h (u.holds q (moved (λ x. x.low) lows a b s e same p m)) c (omega (arith, tight_length meets b h u)) in
      let w : get_or q c 0 ≡ get_or p c 0 = mixed_at (touches (length a)) (λ x. x.low) b p c (omega arith) ∙ cond-true _ _ _ touched in
      (omega arith, omega arith) in
      let n = tight_length meets a g t in
      let (p, m, low) = t.lowest c (omega arith) in
      let (q, o, high) = t.highest c (omega arith) in
      (omega (arith, within p m), omega (arith, within q o))

  back : (a b : List Row) → length a ≡ length b → Same touches a b → Same touches b a
  back a b e same c l t = sym (same c (omega arith) (at_length _ _ c (sym e) t))

  alike : (w : Rule) → w.touches ≡ touches → (a b : List Row) → sound a ≡ true → sound b ≡ true → length a ≡ length b → Same touches a b
      → (g h : Board) → Hull (Meeting meets a) g → Hull (Meeting meets b) h → Alike w g h
  alike w is a b s u e same void void t v = tt
  alike w is a b s u e same void (cells h) t v = t _ (moved (λ x. x.low) lows b a s (sym e) (back a b e same) _ v.one.1)
  alike w is a b s u e same (cells g) void t v = v _ (moved (λ x. x.low) lows a b u e same _ t.one.1)
  alike w is a b s u e same (cells g) (cells h) t v = λ c l k.
      let n = tight_length meets a g t in
      let i = at_length _ _ c n (ap (λ f. f (length g) c) (sym is) ∙ k) in
      let x = follows a b u e same g h t v c (omega arith) i in
      let y = follows b a s (sym e) (back a b e same) h g v t c (omega arith) (at_length _ _ c e i) in
      same_row _ _ (omega arith) (omega arith)

  -- from a meeting filling, an untouched cell may have any count of its row
  untouched : (a g : List Row) → sound a ≡ true → Tight (Meeting meets a) g
      → (c : ℕ) → c < length a → touches (length a) c ≡ false → get_or a c none_row ≡ get_or g c none_row
  untouched a g s t c l u =
      let n = tight_length meets a g t in
      let has : (pick : Row → ℕ) → Picks pick → (low_at g c ≤ pick (get_or a c none_row)) × (pick (get_or a c none_row) ≤ high_at g c) = λ pick picks.
      let q = mixed (touches (length a)) pick a t.one.0 in
      let f = fills_at q g (t.holds q (moved pick picks a a s refl (λ _ _ _. refl) _ t.one.1)) c (omega arith) in
      let w : get_or q c 0 ≡ pick (get_or a c none_row) = mixed_at (touches (length a)) pick a t.one.0 c l ∙ cond-false _ _ _ u in
      (omega arith, omega arith) in
      let (p, m, low) = t.lowest c (omega arith) in
      let (q, o, high) = t.highest c (omega arith) in
      same_row _ _ (omega (arith, fills_at p a m.0 c l, has (λ x. x.low) lows)) (omega (arith, fills_at q a o.0 c l, has (λ x. x.high) highs))

  -- with one count in each touched cell, all fillings of a meet the rule or none does
  one_answer : (a : List Row) (p q : List ℕ) → Fills p a → Fills q a
      → ((c : ℕ) → c < length a → touches (length a) c ≡ true → low_at a c ≡ high_at a c) → meets p ≡ meets q
  one_answer a p q f g fixed =
      let m = fills_length p a f in let n = fills_length q a g in
      local p q (omega arith) (λ c h t.
      omega (arith, fills_at p a f c (omega arith), fills_at q a g c (omega arith), fixed c (omega arith) (at_length _ _ c m t)))

pub exact_laws : (meets : List ℕ → Bool) (touches : ℕ → ℕ → Bool) → Local meets touches → Laws (exactly meets touches)
exact_laws meets touches local =
    let M : List Row → List ℕ → Type 0 = Meeting meets in
    record {
      real = λ a s. hull_real (M a) _ (exact_is meets a);
      within = λ a s. narrowest (M a) _ (cells a) (exact_is meets a) (λ p m. m.0);
      monotone = λ a b s u i. narrowest (M a) _ _ (exact_is meets a)
          (λ p m. hull_holds (M b) _ (exact_is meets b) p (fills_inside p a b i m.0, m.1));
      keeps = λ a p s f t. hull_holds (M a) _ (exact_is meets a) p (f, t);
      decides = λ a p s f fixed. (
        λ e. elim (cases_Bool (meets p)) [ inl t ↦ absurd ((exact_void meets a).0 e p (f, t)) | inr n ↦ n ],
        λ e. (exact_void meets a).1 (λ q m.
            both_ways (meets p) e (one_answer meets touches local a p q f m.0 fixed ∙ m.1)),
      );
      local_meets = local;
      local_frame = λ a g s e. untouched meets touches local a g s ((exact_cells meets a g).0 e);
      local_end = λ a b s u e same. alike meets touches local (exactly meets touches) refl a b s u e same
          _ _ (exact_is meets a) (exact_is meets b);
    }
