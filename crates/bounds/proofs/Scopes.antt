-- Gathering what stands at the cells of a scope, and scattering it back, place by place.
use Rattle.std.proofs.Common.{◌≡◌, ℕ, zero, suc, ◌+◌, ◌<◌, true, false, not, eqb, ltb, ◌≢◌, List, [], ◌∷◌, length, get_or, drop, set, sym, refl, ap, ◌∙◌, subst, inl, inr, arith}
use Rattle.std.proofs.lemmas.List.{length-set, set-get_or, get_or-set_same, get_or-set_other, ext_get_or, drop_more}
use Rattle.std.proofs.lemmas.Bool.{ltb-true, lt-ltb, eq-eqb, ne_eqb, cond-true, cond-false, cond_both, cases_eq, cases_Bool, both_ways, eqb-true, not-true, and_parts, and_from}
use Rattle.bounds.specs.Scoped.{fits, names, distinct, gather, scatter}

pub fits_at : (cs : List ℕ) (n : ℕ) → fits cs n ≡ true → (i : ℕ) → i < length cs → get_or cs i 0 < n
fits_at [] n f i l = absurd (omega arith)
fits_at (c ∷ cs) n f zero l = ltb-true c n (and_parts (ltb c n) (fits cs n) f).0
fits_at (c ∷ cs) n f (suc i) l = fits_at cs n (and_parts (ltb c n) (fits cs n) f).1 i (omega arith)

pub names_at : (cs : List ℕ) (i : ℕ) → i < length cs → names cs (get_or cs i 0) ≡ true
names_at [] i l = absurd (omega arith)
names_at (c ∷ cs) zero l = cond-true (eqb c c) true (names cs c) (eq-eqb c c refl)
names_at (c ∷ cs) (suc i) l = cond_both (eqb c (get_or cs i 0)) true (names cs (get_or cs i 0)) (λ b. b ≡ true)
    (λ _. refl) (λ _. names_at cs i (omega arith))

pub at_fits : (cs : List ℕ) (n : ℕ) → ((i : ℕ) → i < length cs → get_or cs i 0 < n) → fits cs n ≡ true
at_fits [] n h = refl
at_fits (c ∷ cs) n h = and_from (ltb c n) (fits cs n) (lt-ltb c n (h 0 (omega arith))) (at_fits cs n (λ i l. h (suc i) (omega arith)))

pub not_names : (cs : List ℕ) (c : ℕ) → ((i : ℕ) → i < length cs → get_or cs i 0 ≡ c → ⊥) → names cs c ≡ false
not_names [] c h = refl
not_names (x ∷ cs) c h = cond-false (eqb x c) true (names cs c) (ne_eqb x c (h 0 (omega arith))) ∙ not_names cs c (λ i l. h (suc i) (omega arith))

pub names_place : (cs : List ℕ) (c : ℕ) → names cs c ≡ true → (i : ℕ) × (i < length cs) × (get_or cs i 0 ≡ c)
names_place [] c n = absurd (both_ways false refl n)
names_place (x ∷ cs) c n = elim (cases_Bool (eqb x c)) [
  | inl e ↦ (0, omega arith, eqb-true x c e)
  | inr e ↦ let (i, l, k) = names_place cs c (sym (cond-false (eqb x c) true (names cs c) e) ∙ n) in (suc i, omega arith, k)
]

module _ {A : Type 0} (d : A) where
  pub length_gather : (cs : List ℕ) (xs : List A) → length (gather d cs xs) ≡ length cs
  length_gather [] xs = refl
  length_gather (c ∷ cs) xs = ap suc (length_gather cs xs)

  pub gather_at : (cs : List ℕ) (xs : List A) (i : ℕ) → i < length cs → get_or (gather d cs xs) i d ≡ get_or xs (get_or cs i 0) d
  gather_at [] xs i l = absurd (omega arith)
  gather_at (c ∷ cs) xs zero l = refl
  gather_at (c ∷ cs) xs (suc i) l = gather_at cs xs i (omega arith)

  -- what is gathered depends on the named cells alone
  pub gather_same : (cs : List ℕ) (xs ys : List A) (n : ℕ) → fits cs n ≡ true
      → ((c : ℕ) → c < n → names cs c ≡ true → get_or xs c d ≡ get_or ys c d) → gather d cs xs ≡ gather d cs ys
  gather_same cs xs ys n f same = ext_get_or d _ _ (length_gather cs xs ∙ sym (length_gather cs ys))
      (λ i l. let k : i < length cs = omega (arith, length_gather cs xs) in
      gather_at cs xs i k ∙ same (get_or cs i 0) (fits_at cs n f i k) (names_at cs i k) ∙ sym (gather_at cs ys i k))

  -- rows of the scope's length that stand at its cells are those gathered
  pub at_gather : (cs : List ℕ) (own xs : List A) → length own ≡ length cs
      → ((i : ℕ) → i < length cs → get_or own i d ≡ get_or xs (get_or cs i 0) d) → own ≡ gather d cs xs
  at_gather cs own xs e h = ext_get_or d own _ (e ∙ sym (length_gather cs xs))
      (λ i l. let k : i < length cs = omega arith in h i k ∙ sym (gather_at cs xs i k))

  -- what is gathered and put back changes nothing
  pub scatter_gather : (cs : List ℕ) (xs : List A) → scatter cs (gather d cs xs) xs ≡ xs
  scatter_gather [] xs = refl
  scatter_gather (c ∷ cs) xs = ap (λ (x : List A). scatter cs (gather d cs xs) x) (set-get_or xs c d) ∙ scatter_gather cs xs

pub length_scatter : {A : Type 0} (cs : List ℕ) (g xs : List A) → length (scatter cs g xs) ≡ length xs
length_scatter [] g xs = refl
length_scatter (c ∷ cs) [] xs = refl
length_scatter (c ∷ cs) (y ∷ g) xs = length_scatter cs g (set xs c y) ∙ length-set xs c y

-- what holds of two lists at each cell, and of what is written into them at each cell of the scope, holds of what they become;
-- where a cell stands twice in the scope the last write to it counts
module _ {A B : Type 0} (d : A) (e : B) (P : ℕ → A → B → Type 0) where
  set_both : (xs : List A) (ys : List B) (i : ℕ) (x : A) (y : B) → length xs ≡ length ys → P i x y
      → ((c : ℕ) → c < length xs → P c (get_or xs c d) (get_or ys c e))
      → (c : ℕ) → c < length xs → P c (get_or (set xs i x) c d) (get_or (set ys i y) c e)
  set_both xs ys i x y same here all c l = elim (cases_eq c i) [
    | inl k ↦ let inx : i < length xs = omega arith in let iny : i < length ys = omega arith in
        subst (λ j. P j (get_or (set xs i x) j d) (get_or (set ys i y) j e)) (sym k) (rw (get_or-set_same xs i x d inx, get_or-set_same ys i y e iny) here)
    | inr k ↦ let ne : c ≢ i = k in rw (get_or-set_other xs i c x d ne, get_or-set_other ys i c y e ne) (all c l)
  ]

  pub scatter_both : (cs : List ℕ) (g : List A) (h : List B) (xs : List A) (ys : List B)
      → length g ≡ length cs → length h ≡ length cs → length xs ≡ length ys
      → ((i : ℕ) → i < length cs → P (get_or cs i 0) (get_or g i d) (get_or h i e))
      → ((c : ℕ) → c < length xs → P c (get_or xs c d) (get_or ys c e))
      → (c : ℕ) → c < length xs → P c (get_or (scatter cs g xs) c d) (get_or (scatter cs h ys) c e)
  scatter_both [] g h xs ys eg eh same own all c l = all c l
  scatter_both (i ∷ cs) [] h xs ys eg eh same own all c l = absurd (omega arith)
  scatter_both (i ∷ cs) (x ∷ g) [] xs ys eg eh same own all c l = absurd (omega arith)
  scatter_both (i ∷ cs) (x ∷ g) (y ∷ h) xs ys eg eh same own all c l =
      let m = length-set xs i x in let n = length-set ys i y in
      scatter_both cs g h (set xs i x) (set ys i y) (omega arith) (omega arith) (omega arith) (λ j k. own (suc j) (omega arith))
      (λ j k. set_both xs ys i x y same (own 0 (omega arith)) all j (omega arith)) c (omega arith)

-- the same of one list
module _ {A : Type 0} (d : A) (P : ℕ → A → Type 0) where
  pub scatter_each : (cs : List ℕ) (g xs : List A) → length g ≡ length cs
      → ((i : ℕ) → i < length cs → P (get_or cs i 0) (get_or g i d)) → ((c : ℕ) → c < length xs → P c (get_or xs c d))
      → (c : ℕ) → c < length xs → P c (get_or (scatter cs g xs) c d)
  scatter_each cs g xs e own all = scatter_both d d (λ c x _. P c x) cs g g xs xs e e refl own all

module _ {A : Type 0} (d : A) (cs : List ℕ) (g xs : List A) (size : length g ≡ length cs) where
  -- a cell that the scope does not name keeps what it has
  pub scatter_free : (c : ℕ) → c < length xs → names cs c ≡ false → get_or xs c d ≡ get_or (scatter cs g xs) c d
  scatter_free = scatter_each d (λ c x. names cs c ≡ false → get_or xs c d ≡ x) cs g xs size
      (λ i k n. absurd (both_ways _ n (names_at cs i k))) (λ _ _ _. refl)

  -- and if the named ones do too, nothing has changed
  pub scatter_same : gather d cs xs ≡ gather d cs (scatter cs g xs) → xs ≡ scatter cs g xs
  scatter_same h = ext_get_or d xs _ (sym (length_scatter cs g xs)) (λ c l. elim (cases_Bool (names cs c)) [
    | inl n ↦ let (i, k, e) = names_place cs c n in subst (λ j. get_or xs j d ≡ get_or (scatter cs g xs) j d) e
        (sym (gather_at d cs xs i k) ∙ ap (λ (x : List A). get_or x i d) h ∙ gather_at d cs (scatter cs g xs) i k)
    | inr n ↦ scatter_free c l n
  ])

-- what is written to cells that stand once in the scope is found there
pub gather_scatter : {A : Type 0} (d : A) (cs : List ℕ) (g xs : List A) → distinct cs ≡ true → fits cs (length xs) ≡ true → length g ≡ length cs
    → gather d cs (scatter cs g xs) ≡ g
gather_scatter d [] [] xs once fit e = refl
gather_scatter d [] (x ∷ g) xs once fit e = absurd (omega arith)
gather_scatter d (c ∷ cs) [] xs once fit e = absurd (omega arith)
gather_scatter d (c ∷ cs) (x ∷ g) xs once fit e =
    let o = and_parts (not (names cs c)) (distinct cs) once in let f = and_parts (ltb c (length xs)) (fits cs (length xs)) fit in
    let k = length-set xs c x in let l = ltb-true c (length xs) f.0 in
    let here = sym (scatter_free d cs g (set xs c x) (omega arith) c (omega arith) (not-true (names cs c) o.0)) ∙ get_or-set_same xs c x d l in
    let rest = gather_scatter d cs g (set xs c x) o.1 (ap (fits cs) k ∙ f.1) (omega arith) in cc

-- one more write
pub scatter_more : {A : Type 0} (cs : List ℕ) (g xs : List A) (i : ℕ) (d : A) → i < length cs → length g ≡ length cs
    → scatter (drop i cs) (drop i g) xs ≡ scatter (drop (i + 1) cs) (drop (i + 1) g) (set xs (get_or cs i 0) (get_or g i d))
scatter_more cs g xs i d l e = rw (drop_more cs i 0 l, drop_more g i d (omega arith)) refl
