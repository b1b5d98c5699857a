-- Stated of what this crate defines, and used by none of its proofs.
use Rattle.std.proofs.Common.{◌≡◌, ℕ, zero, suc, ◌+◌, ◌-◌, ◌*◌, ◌<◌, ◌≤◌, min, Bool, true, false, cond, ltb, leb, ◌≢◌, ◌⊎◌, List, [], ◌∷◌, ◌++◌, map, length, get_or, take, drop, set, Some, sym, refl, ap, ◌∙◌, subst, subst₂, inl, inr, arith, get_or-set_other, get_or-set_same, below_more}
use borrow.Rule.Slice.PartMut.{put_mid}
use Rattle.std.proofs.lemmas.List.{drop_all, drop_more, take_all, append-nil}
use Rattle.std.proofs.lemmas.Bool.{cond-true, cond-false, cond_both, and_from, and_left, and_right, lt-ltb, le-ltb, le-leb, lt-leb, true≢false}
use Rattle.bounds.specs.declared.row.Row.{Row}
use Rattle.bounds.specs.Boards.{void, cells, sound, none_row}
use Rattle.bounds.specs.Exact.{exact}
use Rattle.records.specs.Bytes.{number}
use Rattle.records.specs.Records.{numbers, plate_at}
use Rattle.records.specs.Forms.{between}
use Rattle.records.proofs.Fields.{length_numbers, get_or_numbers}
use Rattle.plates.specs.declared.frame.Sums.{Sums}
use Rattle.plates.specs.Plates.{plate, scope_of}
use Rattle.plates.specs.Form.{Frame, certain, low_sum, reach, seek, most, fewest, feasible, frame_of, count_of, slots_of, variety_of, rows_of}
use Rattle.plates.specs.Work.{Admitted, Summed, Topped, Small, Framed, Wrote, sum_at}
use Rattle.plates.proofs.Frames.{frame_made, reach_is, framed, small}
use Rattle.plates.proofs.Adding.{Added, sums, certain_front, absent_front, optional_front}
use Rattle.plates.proofs.Writes.{Differ, differ, Writing}
use Rattle.plates.proofs.Whole.{void_outcome, some_outcome}

-- The cells that a plate record names, by their places in the file.

module _ (f : List ℕ) (i : ℕ) where
  abbrev scope : List ℕ
  scope = scope_of (plate_at f i)

  abbrev named : List ℕ
  named = number 2 f i ∷ (number 2 f (i + 2) ∷ numbers (number 2 f (i + 4)) f (i + 6))

  abbrev some : ℕ → Bool
  some n = between 1 64 n

  abbrev size : ℕ
  size = length (numbers (number 2 f (i + 4)) f (i + 6))

  size_is : length (numbers (number 2 f (i + 4)) f (i + 6)) ≡ number 2 f (i + 4)
  size_is = length_numbers (number 2 f (i + 4)) f (i + 6)

  pub arity_some : (n : ℕ) → n ≡ number 2 f (i + 4) → 0 < n → n ≤ 64 → n + 2 ≡ length scope
  arity_some n e p q =
      let m = size_is in
      let t = cond-true (some size) named [] (and_from (leb 1 size) (leb size 64) (le-leb 1 size (omega arith)) (le-leb size 64 (omega arith))) in
      omega (arith, ap length t)

  pub arity_none : (n : ℕ) → n ≡ number 2 f (i + 4) → (n ≤ 0) ⊎ (64 < n) → 0 ≡ length scope
  arity_none n e c =
      let m = size_is in
      let t : some size ≡ false = elim c [
        | inl p ↦ and_left (leb 1 size) (leb size 64) (lt-leb 1 size (omega arith))
        | inr p ↦ and_right (leb 1 size) (leb size 64) (lt-leb size 64 (omega arith))
      ] in
      omega (arith, ap length (cond-false (some size) named [] t))

  -- the number of counts stands between the variety and the first count
  abbrev pub Index : ℕ → ℕ → Type 0
  Index j x = ((j < 2) × (x ≡ j)) ⊎ ((2 ≤ j) × (x ≡ j + 1))

  named_at : (j x : ℕ) → Index j x → j < length named → get_or named j 0 ≡ number 2 f (i + 2 * x)
  named_at zero x e l = ap (number 2 f) (omega arith)
  named_at (suc zero) x e l = ap (number 2 f) (omega arith)
  named_at (suc (suc j)) x e l = get_or_numbers (number 2 f (i + 4)) f (i + 6) j (omega (arith, size_is)) ∙ ap (number 2 f) (omega arith)

  pub cell_at : (j x : ℕ) → Index j x → j < length scope → number 2 f (i + 2 * x) ≡ get_or scope j 0
  cell_at j x e = cond_both (some size) named [] (λ (cs : List ℕ). j < length cs → number 2 f (i + 2 * x) ≡ get_or cs j 0)
      (λ _ l. sym (named_at j x e l)) (λ _ l. absurd (omega arith))

-- no cells, nothing to narrow
pub exact_none : (rows : List Row) → length rows ≡ 0 → exact plate rows ≡ cells rows
exact_none [] l = refl
exact_none (r ∷ rows) l = absurd (omega arith)

-- The search for the fewest, step by step.

pub seek_more : (f : ℕ → ℕ) (need k m : ℕ) → f k < need → k < m → seek f need k (m - k) ≡ seek f need (k + 1) (m - (k + 1))
seek_more f need k m h l =
    let e : m - k ≡ suc (m - (k + 1)) = omega arith in
    let s : suc k ≡ k + 1 = omega arith in
    ap (seek f need k) e ∙ cond-true (ltb (f k) need) (seek f need (suc k) (m - (k + 1))) k (lt-ltb (f k) need h) ∙ ap (λ j. seek f need j (m - (k + 1))) s

pub seek_stop : (f : ℕ → ℕ) (need k n : ℕ) → need ≤ f k → seek f need k n ≡ k
seek_stop f need k zero h = refl
seek_stop f need k (suc n) h = cond-false (ltb (f k) need) (seek f need (suc k) n) k (le-ltb (f k) need h)

seek_same : (f g : ℕ → ℕ) (need k n : ℕ) → ((j : ℕ) → k ≤ j → j < k + n → f j ≡ g j) → seek f need k n ≡ seek g need k n
seek_same f g need k zero h = refl
seek_same f g need k (suc n) h =
    let e = seek_same f g need (suc k) n (λ j a b. h j (omega arith) (omega arith)) in
    let d : f k ≡ g k = h k (omega arith) (omega arith) in
    λ i. cond (ltb (d i) need) (e i) k

module _ (s v : Row) (cs : List Row) (t : List ℕ) (sm : Sums) (a : Summed cs sm 64) (b : Topped cs t sm 64) where
  pub fewest_sought : (least m r : ℕ) → least ≡ v.low - certain cs → m ≡ most s v cs → r ≡ seek (sum_at t sm.base) s.low least (m - least) → r ≡ fewest s v cs
  fewest_sought least m r x y z =
      let o = a.optionals in
      z ∙ (λ i. seek (sum_at t sm.base) s.low (x i) (y i - x i))
      ∙ seek_same (sum_at t sm.base) (reach cs) s.low (v.low - certain cs) (most s v cs - (v.low - certain cs)) (λ j p q. reach_is s v cs t sm a b j (omega arith))

  -- the frame from its sums, with one more than the most or without
  pub framed_sums : (m r over j : ℕ) → m ≡ most s v cs → r ≡ fewest s v cs → j ≡ r - 1 → certain cs ≤ v.high → low_sum cs ≤ s.high → r ≤ m → s.low ≤ sum_at t sm.base r
      → ((m < sm.optional) × (over ≡ sum_at t sm.base (m + 1))) ⊎ ((sm.optional ≤ m) × (over ≡ sum_at t sm.base m))
      → s.low < 65536 → s.high < 65536 → v.high < 65536
      → let f = frame_made sm s.low s.high r m (sum_at t sm.base j) (sum_at t sm.base m) over in Framed s v cs (Some f) × Small f
  framed_sums m r over j x y d p q l h c u w z =
      let o = a.optionals in
      let n = min sm.optional (m + 1) in
      let e : over ≡ sum_at t sm.base n = elim c [
        | inl k ↦ k.1 ∙ ap (sum_at t sm.base) (omega arith)
        | inr k ↦ k.1 ∙ ap (sum_at t sm.base) (let less = x in omega arith)
      ] in
      let f = framed s v cs t sm a b s.low s.high m r n j refl refl d x l q h y p refl in
      ((f.0, ap (frame_made sm s.low s.high r m (sum_at t sm.base j) (sum_at t sm.base m)) e ∙ f.1), small s v cs t sm a b s.low s.high m r n j refl refl d x l q h u w z over)

-- The sums before the first row, and with a row more.

added_nil : (t : List ℕ) (n : ℕ) → 0 < length t → Added [] (set t 0 0) (sums 0 0 0 0) n
added_nil [] n p = absurd (omega arith)
added_nil (x ∷ t) n p = (
  record { certains = refl; optionals = refl; least = refl; bases = refl; few = omega arith; light = omega arith; heavy = omega arith },
  record { tops = only_zero; limit = λ k q. omega (arith, only_zero k q) },
)
  where
    only_zero : (k : ℕ) → k ≤ 0 → get_or (0 ∷ t) k 0 ≡ 0
    only_zero zero q = refl
    only_zero (suc k) q = absurd (omega arith)

pub added_none : (cs : List Row) (t : List ℕ) (n : ℕ) → 0 < length t → Added (drop (length cs) cs) (set t 0 0) (sums 0 0 0 0) n
added_none cs t n p = rw (drop_all (length cs) cs (omega arith)) (added_nil t n p)

-- the row before
pub before : (P : List Row → ℕ → Type 0) (cs : List Row) (i : ℕ) → 0 < i → i ≤ length cs
    → P (get_or cs (i - 1) none_row ∷ drop i cs) (suc (length cs - i)) → P (drop (i - 1) cs) (length cs - (i - 1))
before P cs i p q h =
    let e : (i - 1) + 1 ≡ i = omega arith in
    let d : get_or cs (i - 1) none_row ∷ drop i cs ≡ drop (i - 1) cs =
    sym (drop_more cs (i - 1) none_row (omega arith) ∙ ap (λ j. get_or cs (i - 1) none_row ∷ drop j cs) e) in
    let m : suc (length cs - i) ≡ length cs - (i - 1) = omega arith in
    subst₂ P d m h

module _ (cs : List Row) (t : List ℕ) (s : Sums) (i : ℕ) (p : 0 < i) (q : i ≤ length cs) (w : Added (drop i cs) t s (length cs - i)) where
  abbrev pub here : Row
  here = get_or cs (i - 1) none_row

  pub added_certain : 0 < here.low → here.low < 65536 → here.high < 65536
      → Added (drop (i - 1) cs) t (sums (s.certain + 1) s.optional (s.lows + here.low) (s.base + here.high)) (length cs - (i - 1))
  added_certain a b c = before (λ ds m. Added ds t (sums (s.certain + 1) s.optional (s.lows + here.low) (s.base + here.high)) m) cs i p q
      (certain_front (drop i cs) t s (length cs - i) w here.low here.high here.low here.high refl refl a b c)

  pub added_absent : here.low ≤ 0 → here.high ≤ 0
      → Added (drop (i - 1) cs) t (sums s.certain s.optional (s.lows + here.low) s.base) (length cs - (i - 1))
  added_absent a b = before (λ ds m. Added ds t (sums s.certain s.optional (s.lows + here.low) s.base) m) cs i p q
      (absent_front (drop i cs) t s (length cs - i) w here.low here.high here.low refl a b)

  pub added_optional : (u : List ℕ) → here.low ≤ 0 → 0 < here.high → here.high < 65536 → Admitted t u s.optional here.high
      → Added (drop (i - 1) cs) u (sums s.certain (s.optional + 1) (s.lows + here.low) s.base) (length cs - (i - 1))
  added_optional u a b c g = before (λ ds m. Added ds u (sums s.certain (s.optional + 1) (s.lows + here.low) s.base) m) cs i p q
      (optional_front (drop i cs) t s (length cs - i) w here.low here.high here.low u refl a b c g)

-- A loop that writes over each row, and notes whether one differs.

pub writing_none : (f : Row → Row) (xs : List Row) → Writing f xs xs 0 false
writing_none f xs = record {
  done = λ j l. absurd (omega arith);
  left = λ j l. refl;
  same = λ e j l. absurd (omega arith);
  other = λ e. absurd (true≢false (sym e));
}

pub writing_more : (f : Row → Row) (xs ys : List Row) (i : ℕ) (b d : Bool) (n : Row) → i < length ys → Writing f xs ys i b → n ≡ f (get_or ys i none_row)
    → ((d ≡ true) × (n ≢ get_or ys i none_row)) ⊎ ((d ≡ b) × (n ≡ get_or ys i none_row)) → Writing f xs (set ys i n) (i + 1) d
writing_more f xs ys i b d n l w e t =
    let here : get_or ys i none_row ≡ get_or xs i none_row = w.left i (omega arith) in
    let is : n ≡ f (get_or xs i none_row) = e ∙ ap f here in
    record {
      done = below_more _ _ (λ j k. get_or-set_other ys i j n none_row (omega arith) ∙ w.done j k) (get_or-set_same ys i n none_row l ∙ is);
      left = λ j k. get_or-set_other ys i j n none_row (omega arith) ∙ w.left j (omega arith);
      same = λ z. elim t [ inl p ↦ absurd (true≢false (sym p.0 ∙ z)) | inr p ↦ below_more _ _ (w.same (sym p.0 ∙ z)) (sym is ∙ p.1 ∙ here) ];
      other = λ z. elim t [
        | inl p ↦ (i, omega arith, λ q. p.1 (is ∙ q ∙ sym here))
        | inr p ↦ let (j, k, q) = w.other (sym p.0 ∙ z) in (j, omega arith, q)
      ];
    }

-- The rows of slots, variety and the counts in one list.

-- the counts, as the code cuts them off
abbrev pub counts : List Row → List Row
counts rows = take (length rows - 2) (drop 2 rows)

-- the rows with the first two written
abbrev pub headed : List Row → Row → Row → List Row
headed rows a b = set (set rows 0 a) 1 b

-- and then the counts
abbrev pub whole : List Row → Row → Row → List Row → List Row
whole rows a b ys = put_mid 2 (length (headed rows a b) - 2) (headed rows a b) ys

pub void_listed : (rows : List Row) → 2 ≤ length rows → sound rows ≡ true
    → feasible (get_or rows 0 none_row) (get_or rows 1 none_row) (counts rows) ≡ false → exact plate rows ≡ void
void_listed [] n s h = absurd (omega arith)
void_listed (x ∷ []) n s h = absurd (omega arith)
void_listed (x ∷ (y ∷ cs)) n s h =
    let e : counts (x ∷ (y ∷ cs)) ≡ cs = take_all _ cs (omega arith) in
    void_outcome x y cs s (rw e at h)

pub record Whole (rows : List Row) (a b : Row) (ys : List Row) (moved first second : Bool) : Type 0 where
  pub is : exact plate rows ≡ cells (whole rows a b ys)
  pub same : moved ≡ false → first ≡ false → second ≡ false → whole rows a b ys ≡ rows
  pub other : (moved ≡ true) ⊎ ((first ≡ true) ⊎ (second ≡ true)) → whole rows a b ys ≢ rows

cells_are : (x y : Row) (cs : List Row) → sound (x ∷ (y ∷ cs)) ≡ true → (f : Frame) → feasible x y cs ≡ true → f ≡ frame_of x y cs
    → exact plate (x ∷ (y ∷ cs)) ≡ cells (rows_of f cs)
cells_are x y cs s f h e =
    some_outcome x y cs s h ∙ ap (λ (g : Frame). cells (rows_of g cs)) (sym e)

pub whole_outcome : (rows : List Row) → 2 ≤ length rows → sound rows ≡ true → (f : Frame) (a b : Row) (ys : List Row) (moved first second : Bool)
    → Framed (get_or rows 0 none_row) (get_or rows 1 none_row) (counts rows) (Some f) → a ≡ slots_of f → b ≡ variety_of f
    → Wrote f (counts (headed rows a b)) ys moved → Differ a (get_or rows 0 none_row) first → Differ b (get_or rows 1 none_row) second
    → Whole rows a b ys moved first second
whole_outcome [] n s f a b ys moved first second g d e w u v = absurd (omega arith)
whole_outcome (x ∷ []) n s f a b ys moved first second g d e w u v = absurd (omega arith)
whole_outcome (x ∷ (y ∷ cs)) n s f a b ys moved first second g d e w u v =
    let t : counts (x ∷ (y ∷ cs)) ≡ cs = take_all _ cs (omega arith) in
    let all : whole (x ∷ (y ∷ cs)) a b ys ≡ a ∷ (b ∷ ys) = ap (λ zs. a ∷ (b ∷ (ys ++ zs))) (drop_all _ cs (omega arith)) ∙ ap (λ zs. a ∷ (b ∷ zs)) (append-nil ys) in
    let z : Framed x y cs (Some f) = subst (λ ds. Framed x y ds (Some f)) t g in
    let is : ys ≡ map (count_of f) cs = w.is ∙ ap (map (count_of f)) t in
    record {
      is = cells_are x y cs s f z.0 z.1 ∙ sym (ap cells all ∙ (λ i. cells (d i ∷ (e i ∷ is i))));
      same = λ p q r. all ∙ (λ i. (differ a x first u).1 q i ∷ ((differ b y second v).1 r i ∷ (w.same p ∙ t) i));
      other = λ c h. let k : a ∷ (b ∷ ys) ≡ x ∷ (y ∷ cs) = sym all ∙ h in
          elim c [
            | inl p ↦ w.other p (ap (λ (zs : List Row). drop 2 zs) k ∙ sym t)
            | inr c2 ↦ elim c2 [
              | inl p ↦ (differ a x first u).0 p (ap (λ (zs : List Row). get_or zs 0 none_row) k)
              | inr p ↦ (differ b y second v).0 p (ap (λ (zs : List Row). get_or zs 1 none_row) k)
            ]
          ];
    }
