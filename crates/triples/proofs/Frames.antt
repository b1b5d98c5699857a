-- Three rows of which the third is made of the first two.
use Rattle.std.proofs.Common.{◌≡◌, ℕ, zero, suc, ◌≤◌, cond, List, [], ◌∷◌, refl, arith}
use Rattle.std.proofs.lemmas.Bool.{eqb-true, eq-eqb}
use Rattle.bounds.specs.declared.row.Row.{Row}
use Rattle.bounds.specs.Boards.{void, cells, sound, Fills}
use Rattle.bounds.specs.Exact.{exact}
use Rattle.bounds.proofs.Places.{sound_at}
use Rattle.bounds.proofs.Hulls.{Meeting}
use Rattle.rules.proofs.Rows.{three}
use Rattle.rules.proofs.Reached.{In, Reached, exact_reached}
use Rattle.triples.specs.Triples.{makes}

-- where the third count is made of the first two: g, h and k narrow the rows a, b and c
module _ (op : ℕ → ℕ → ℕ) where
  abbrev pub Lying : Row → Row → Row → ℕ → ℕ → Type 0
  Lying a b c x y = In x a × In y b × In (op x y) c

  module _ (a b c g h k : Row) where
    abbrev pub Sound : Type 0
    Sound = (g.low ≤ g.high) × (h.low ≤ h.high) × (k.low ≤ k.high)

    pub record Narrowed : Type 0 where
      pub holds : (x y : ℕ) → Lying a b c x y → Lying g h k x y
      pub first : Sound → (x : ℕ) → In x g → (y : ℕ) × Lying a b c x y
      pub second : Sound → (y : ℕ) → In y h → (x : ℕ) × Lying a b c x y
      pub third : Sound → (z : ℕ) → In z k → (x : ℕ) × (y : ℕ) × Lying a b c x y × (op x y ≡ z)

    module _ (n : Narrowed) where
      held : (p : List ℕ) → Meeting (makes op) (three a b c) p → Fills p (three g h k)
      held [] m = absurd m.0
      held (x ∷ []) m = absurd m.0.2
      held (x ∷ (y ∷ [])) m = absurd m.0.2.2
      held (x ∷ (y ∷ (z ∷ []))) m =
          let e = eqb-true z (op x y) m.1 in
          let l = n.holds x y (omega arith) in
          (omega arith, omega arith, (omega arith, omega arith, (omega arith, omega arith, tt)))
      held (x ∷ (y ∷ (z ∷ (w ∷ p)))) m = absurd m.0.2.2.2

      meeting : (x y z : ℕ) → Lying a b c x y → op x y ≡ z → Meeting (makes op) (three a b c) (three x y z)
      meeting x y z l e = ((omega arith, omega arith, (omega arith, omega arith, (omega arith, omega arith, tt))), eq-eqb z (op x y) (omega arith))

      reached : Sound → Reached (makes op) (three a b c) (three g h k)
      reached s zero l x i = let (y, u) = n.first s x i in (three x y (op x y), meeting x y (op x y) u refl, refl)
      reached s (suc zero) l y i = let (x, u) = n.second s y i in (three x y (op x y), meeting x y (op x y) u refl, refl)
      reached s (suc (suc zero)) l z i = let (x, y, u, e) = n.third s z i in (three x y z, meeting x y z u e, refl)
      reached s (suc (suc (suc i))) l n j = absurd (omega arith)

      pub exact_three : exact (makes op) (three a b c) ≡ cond (sound (three g h k)) (cells (three g h k)) void
      exact_three = exact_reached (makes op) (three a b c) (three g h k) (omega arith) held
          (λ s. let at = sound_at (three g h k) s in reached (at 0 (omega arith), at 1 (omega arith), at 2 (omega arith)))
