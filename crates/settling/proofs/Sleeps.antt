-- A quiet rule stays quiet where no cell that it touches changes.
use Rattle.std.proofs.Common.{◌≡◌, ℕ, ◌%◌, ◌<◌, ◌&&◌, ◌≢◌, Bool, true, List, Some, length, get_or, set, lt-ltb, length-set, sym, refl, ap, ◌∙◌, subst, inl, inr, arith}
use Rattle.std.specs.Int.{bit_at}
use Rattle.std.proofs.lemmas.Bool.{cases_Bool, cases_eq, cases_lt, true≢false}
use Rattle.std.proofs.lemmas.List.{get_or-set_other}
use Rattle.bounds.specs.declared.row.Row.{Row}
use Rattle.bounds.specs.Boards.{Board, void, cells, sound, Within, none_row}
use Rattle.bounds.specs.Laws.{Meaning, FiveLaws, Rule, Touched, Alike}
use Rattle.settling.specs.declared.watchers.Watchers.{Watchers}
use Rattle.settling.specs.declared.folded.FoldedWatchers.{FoldedWatchers}
use Rattle.settling.specs.Asleep.{Asleep, AsleepBut, SameOutside}
use Rattle.settling.specs.Plans.{Still}
use Rattle.settling.specs.Watching.{Watching, watching}
use Rattle.settling.specs.Folded.{FoldedWatching}
use Rattle.bounds.proofs.Rows.{inside_length}
use Rattle.bounds.proofs.Places.{same_rows}

pub both : (x y : Bool) → x ≡ true → y ≡ true → (x && y) ≡ true
both x y e f = (λ i. e i && f i)

module _ (m : Meaning) (laws : FiveLaws m) (a b : List Row) (q : ℕ) (s : sound a ≡ true) (t : sound b ≡ true) (e : length a ≡ length b)
    (same : Touched (m.rule q) a b (λ x y. x ≡ y)) where
  still : (x : Board) → (m.rule q).narrowed b ≡ x → Alike (m.rule q) (cells a) x → x ≡ cells b
  still void is k = absurd k
  still (cells h) is k =
      let n = inside_length h b (subst (λ (x : Board). Within x (cells b)) is ((laws.each q).within b t)) in
      ap cells (same_rows h b n (λ c l. elim (cases_Bool ((m.rule q).touches (length b) c)) [
        | inl u ↦ let v = ap (λ k. (m.rule q).touches k c) e ∙ u in sym (k c (omega arith) v) ∙ same c (omega arith) v
        | inr u ↦ sym ((laws.each q).local_frame b h t is c (omega arith) u)
      ]))

  pub stays_quiet : (m.rule q).narrowed a ≡ cells a → (m.rule q).narrowed b ≡ cells b
  stays_quiet quiet = still ((m.rule q).narrowed b) refl
      (subst (λ (x : Board). Alike (m.rule q) x ((m.rule q).narrowed b)) quiet ((laws.each q).local_end a b s t e same))

-- where no rule narrows the rows, another row in one cell stirs no rule that does not touch it
module _ (m : Meaning) (laws : FiveLaws m) (a : List Row) (c : ℕ) (x : Row) (n : ℕ) where
  pub stirs_no_other : sound a ≡ true → length a ≡ n → Still m (cells a) → sound (set a c x) ≡ true
      → (q : ℕ) → q < m.size → (m.rule q).touches n c ≢ true → (m.rule q).narrowed (set a c x) ≡ cells (set a c x)
  stirs_no_other s long quiet t q l apart =
      let e : length a ≡ length (set a c x) = sym (length-set a c x) in
      stays_quiet m laws a (set a c x) q s t e (λ k i touched. elim (cases_eq k c) [
        | inl is ↦ absurd (apart ((λ j. (m.rule q).touches (sym long j) (sym is j)) ∙ touched))
        | inr other ↦ sym (get_or-set_other a c k x none_row other)
      ]) (quiet q l)

-- so it may stir only the rules that are listed with it
module _ (m : Meaning) (laws : FiveLaws m) (a : List Row) (c : ℕ) (x : Row) (w : Watchers) (n : ℕ) (at : Watching m n w) where
  pub stirs_listed : sound a ≡ true → length a ≡ n → Still m (cells a) → c < n → sound (set a c x) ≡ true → Asleep m (set a c x) (watching w c)
  stirs_listed s long quiet here t q l asleep =
      stirs_no_other m laws a c x n s long quiet t q l (λ touched.
      true≢false (sym (at.listed c q here ∙ both _ _ (lt-ltb q m.size l) touched) ∙ asleep))

-- the same of a folded table
module _ {C R : ℕ} (m : Meaning) (laws : FiveLaws m) (a : List Row) (c : ℕ) (x : Row) (w : FoldedWatchers C R) (n : ℕ) (at : FoldedWatching m n w) where
  pub stirs_folded : sound a ≡ true → length a ≡ n → Still m (cells a) → c < n → sound (set a c x) ≡ true → AsleepBut m w (Some c) (set a c x)
  stirs_folded s long quiet here t = (
    omega (arith, length-set a c x, long, here),
    λ q l asleep. stirs_no_other m laws a c x n s long quiet t q l (λ touched. true≢false (sym (at.listed c q here l touched) ∙ asleep)),
  )

-- a narrowing changes no cell whose bit the rule does not have
module _ {C R : ℕ} (m : Meaning) (laws : FiveLaws m) (w : FoldedWatchers C R) (a b : List Row) (r : ℕ) (at : FoldedWatching m (length a) w) where
  reached : (c : ℕ) → c < length a → (m.rule r).touches (length a) c ≡ true → bit_at (get_or w.reach r 0) (c % 64) ≡ 1
  reached c l touched = elim (cases_lt r m.size) [
    | inl k ↦ at.reach r k c l touched
    | inr g ↦ absurd (true≢false (sym touched ∙ ap (λ (u : Rule). u.touches (length a) c) (laws.beyond r g)))
  ]

  pub same_outside : sound a ≡ true → (m.rule r).narrowed a ≡ cells b → SameOutside (get_or w.reach r 0) a b
  same_outside s e c l zero =
      let n = inside_length b a (subst (λ (x : Board). Within x (cells a)) e ((laws.each r).within a s)) in
      elim (cases_Bool ((m.rule r).touches (length a) c)) [
        | inl u ↦ absurd (omega (arith, zero, reached c (omega arith) u))
        | inr u ↦ (laws.each r).local_frame a b s e c (omega arith) u
      ]
