-- Each refusal tells of a fault of the file.
use Rattle.std.proofs.Common.{◌≡◌, ℕ, zero, suc, ◌+◌, ◌*◌, ◌<◌, Bool, true, false, cond, not, ◌&&◌, eqb, ltb, leb, ◌⊎◌, List, [], ◌∷◌, length, get_or, Some, None, Option, sym, refl, ap, ◌∙◌, subst, inl, inr, arith}
use Rattle.std.proofs.lemmas.Bool.{ltb-true, ltb-false, leb-false, eqb-false, not-true, and_cases, both_ways, cases_order}
use Rattle.bounds.specs.Scoped.{fits}
use Rattle.records.specs.Forms.{Form, between}
use Rattle.records.specs.Refusals.{line}
use Rattle.records.specs.declared.refused.Refused.{Refused}
use Rattle.job.specs.Contents.{entries, entries_from, first, when, ends, contents_end, contents_fault}
use Rattle.job.specs.Contents as contents
use Rattle.job.specs.Reading.{Found, Reading, refused, granted, unless, record_fault, record_faults, rules, nothing, bodies, reading}
use Rattle.job.specs.Told.{Told, long, short, uncounted, misnamed, misplaced, overruns, breaks, repeats, entry, form_at, body_at, records_at, Misnamed, Misplaced, due, before, Breaks}
use Rattle.job.proofs.Listings.{never}

same : (x y : Refused) → ◌≡◌ {A = Option Refused} (Some x) (Some y) → y ≡ x
same x y e = cc

first_some : (a b : Option Refused) (r : Refused) → first a b ≡ Some r → (a ≡ Some r) ⊎ (b ≡ Some r)
first_some (Some x) b r e = inl e
first_some None b r e = inr e

when_some : (t : Bool) (x r : Refused) → when t x ≡ Some r → (t ≡ true) × (r ≡ x)
when_some true x r e = (refl, same x r e)
when_some false x r e = never r e

-- the kinds
ordered_next : (f : List ℕ) (i k : ℕ) → suc i ≡ k → between ((entry f i).kind + 1) 4 (entry f k).kind ≡ false → Misnamed f k
ordered_next f i k e = subst (λ (n : ℕ). between ((entry f i).kind + 1) 4 (entry f n).kind ≡ false → Misnamed f n) e
    (λ q. elim (and_cases (leb ((entry f i).kind + 1) (entry f (suc i)).kind) (leb (entry f (suc i)).kind 4) q) [
      | inl h ↦ inl (omega (arith, leb-false _ _ h))
      | inr h ↦ inr (leb-false _ _ h)
    ])

misnamed_from : (f : List ℕ) (m i low high : ℕ) (r : Refused) → m + i ≡ get_or f 0 0
    → ((k : ℕ) → i ≡ k → between low high (entry f k).kind ≡ false → Misnamed f k)
    → contents.misordered low high (1 + 9 * i) (entries_from m f (1 + 9 * i)) ≡ Some r → Told f r
misnamed_from f zero i low high r n bad e = never r e
misnamed_from f (suc m) i low high r n bad e = by (between low high (entry f i).kind) refl
    (misnamed_from f m (suc i) ((entry f i).kind + 1) 4 r (omega arith) (ordered_next f i)) e
  where
    by : (t : Bool) → between low high (entry f i).kind ≡ t
        → (contents.misordered ((entry f i).kind + 1) 4 (1 + 9 * suc i) (entries_from m f (1 + 9 * suc i)) ≡ Some r → Told f r)
        → cond t (contents.misordered ((entry f i).kind + 1) 4 (1 + 9 * i + 9) (entries_from m f (1 + 9 * i + 9))) (Some (line 3 0 (1 + 9 * i))) ≡ Some r → Told f r
    by false q next d = misnamed i (omega arith) (bad i refl q) (same _ _ d)
    by true q next d = let p : 1 + 9 * suc i ≡ 1 + 9 * i + 9 = omega arith in
        next (ap (λ (n : ℕ). contents.misordered ((entry f i).kind + 1) 4 n (entries_from m f n)) p ∙ d)

misnamed_all : (f : List ℕ) (r : Refused) → contents.misordered 1 1 1 (entries f) ≡ Some r → Told f r
misnamed_all f r e = misnamed_from f (get_or f 0 0) 0 1 1 r (omega arith) first_bad e
  where
    first_bad : (k : ℕ) → 0 ≡ k → between 1 1 (entry f k).kind ≡ false → Misnamed f k
    first_bad k z = subst (λ (n : ℕ). between 1 1 (entry f n).kind ≡ false → Misnamed f n) z
        (λ q h. both_ways (between 1 1 (entry f 0).kind) q (ap (λ (n : ℕ). between 1 1 n) h))

-- the layout
ends_false : (f : List ℕ) (m p end all : ℕ) → ends (entries_from m f p) end all ≡ false → (all < end) ⊎ ((m ≡ 0) × (end < all))
ends_false f zero p end all q = elim (cases_order end all) [
  | inl h ↦ absurd (eqb-false end all q h)
  | inr (inl h) ↦ inr (refl, h)
  | inr (inr h) ↦ inl h
]
ends_false f (suc m) p end all q = inl (leb-false end all q)

misplaced_from : (f : List ℕ) (m i start : ℕ) (r : Refused) → m + i ≡ get_or f 0 0 → start ≡ due f i
    → contents.misplaced (length f) start (1 + 9 * i) (entries_from m f (1 + 9 * i)) ≡ Some r → Told f r
misplaced_from f zero i start r n o e = never r e
misplaced_from f (suc m) i start r n o e = by _ refl (misplaced_from f m (suc i) ((entry f i).offset + (entry f i).size) r (omega arith) refl) e
  where
    why : (eqb (entry f i).offset start && ends (entries_from m f (1 + 9 * i + 9)) ((entry f i).offset + (entry f i).size) (length f)) ≡ false → Misplaced f i
    why q = elim (and_cases (eqb (entry f i).offset start) _ q) [
      | inl h ↦ inl (λ d. eqb-false _ _ h (d ∙ sym o))
      | inr h ↦ inr (elim (ends_false f m (1 + 9 * i + 9) ((entry f i).offset + (entry f i).size) (length f) h) [
        | inl l ↦ inl l
        | inr l ↦ inr (omega (arith, l.0), l.1)
      ])
    ]

    by : (t : Bool) → (eqb (entry f i).offset start && ends (entries_from m f (1 + 9 * i + 9)) ((entry f i).offset + (entry f i).size) (length f)) ≡ t
        → (contents.misplaced (length f) ((entry f i).offset + (entry f i).size) (1 + 9 * suc i) (entries_from m f (1 + 9 * suc i)) ≡ Some r → Told f r)
        → cond t (contents.misplaced (length f) ((entry f i).offset + (entry f i).size) (1 + 9 * i + 9) (entries_from m f (1 + 9 * i + 9))) (Some (line 4 0 (1 + 9 * i))) ≡ Some r → Told f r
    by false q next d = misplaced i (omega arith) (why q) (same _ _ d)
    by true q next d = let p : 1 + 9 * suc i ≡ 1 + 9 * i + 9 = omega arith in
        next (ap (λ (n : ℕ). contents.misplaced (length f) ((entry f i).offset + (entry f i).size) n (entries_from m f n)) p ∙ d)

-- the records of a body
one_of : (s : Form) (start cells : ℕ) (b : List ℕ) (number : ℕ) (is : List ℕ) (r : Refused) → record_faults s start cells b number is ≡ Some r
    → (j : ℕ) × (j < length is) × (record_fault s start cells b (number + j) (get_or is j 0) ≡ Some r)
one_of s start cells b number [] r e = never r e
one_of s start cells b number (i ∷ is) r e = elim (first_some (record_fault s start cells b number i) (record_faults s start cells b (number + 1) is) r e) [
  | inl h ↦ (0, omega arith, (let p : number + 0 ≡ number = omega arith in ap (λ (n : ℕ). record_fault s start cells b n i) p) ∙ h)
  | inr h ↦ (let x = one_of s start cells b (number + 1) is r h in
      let p : number + suc x.0 ≡ number + 1 + x.0 = omega arith in
      (suc x.0, omega (arith, x.1), ap (λ (n : ℕ). record_fault s start cells b n (get_or is x.0 0)) p ∙ x.2))
]

record_told : (f : List ℕ) (k j : ℕ) (r : Refused) → k < get_or f 0 0 → j < length (records_at f k)
    → record_fault (form_at f k) (entry f k).offset (length (before f k).cells) (body_at f k) (rules (before f k) + j) (get_or (records_at f k) j 0) ≡ Some r
    → Told f r
record_told f k j r hk hj e =
    let s = form_at f k in let b = body_at f k in let i = get_or (records_at f k) j 0 in let cells = length (before f k).cells in
    elim (first_some (when (ltb (length b) (i + s.size b i)) (line 5 s.kind ((entry f k).offset + i))) _ r e) [
      | inl h ↦ (let x = when_some _ _ r h in overruns k j hk hj (ltb-true _ _ x.0) x.1)
      | inr g ↦ elim (first_some (when (not (ltb (rules (before f k) + j) 1024 && (s.limits b i && fits (s.names b i) cells))) (line 6 s.kind ((entry f k).offset + i))) _ r g) [
        | inl h ↦ (let x = when_some _ _ r h in breaks k j hk hj (broken (not-true _ x.0)) x.1)
        | inr h ↦ (let x = when_some _ _ r h in repeats k j hk hj (not-true _ x.0) x.1)
      ]
    ]
  where
    broken : (ltb (rules (before f k) + j) 1024 && ((form_at f k).limits (body_at f k) (get_or (records_at f k) j 0)
        && fits ((form_at f k).names (body_at f k) (get_or (records_at f k) j 0)) (length (before f k).cells))) ≡ false → Breaks f k j
    broken q = elim (and_cases (ltb (rules (before f k) + j) 1024) _ q) [
      | inl h ↦ inl (ltb-false _ _ h)
      | inr h ↦ inr (and_cases ((form_at f k).limits (body_at f k) (get_or (records_at f k) j 0)) _ h)
    ]

same_refused : (x r : Refused) → ◌≡◌ {A = Reading} (refused x) (refused r) → x ≡ r
same_refused x r e = cc

not_granted : {A : Type 0} (g : Found) (r : Refused) → ◌≡◌ {A = Reading} (granted g) (refused r) → A
not_granted g r e = let z : ◌≡◌ {A = ℕ} 0 1 = cc in absurd (omega arith)

bodies_told : (f : List ℕ) (m i : ℕ) (r : Refused) → m + i ≡ get_or f 0 0 → bodies f (before f i) (entries_from m f (1 + 9 * i)) ≡ refused r → Told f r
bodies_told f zero i r n e = not_granted (before f i) r e
bodies_told f (suc m) i r n e = by _ refl (bodies_told f m (suc i) r (omega arith)) e
  where
    by : (o : Option Refused) → record_faults (form_at f i) (entry f i).offset (length (before f i).cells) (body_at f i) (rules (before f i)) (records_at f i) ≡ o
        → (bodies f (before f (suc i)) (entries_from m f (1 + 9 * suc i)) ≡ refused r → Told f r)
        → unless o (bodies f (before f (suc i)) (entries_from m f (1 + 9 * i + 9))) ≡ refused r → Told f r
    by (Some x) q next d = let y = one_of (form_at f i) (entry f i).offset (length (before f i).cells) (body_at f i) (rules (before f i)) (records_at f i) r (q ∙ ap Some (same_refused x r d)) in
        record_told f i y.0 r (omega arith) y.1 y.2
    by None q next d = let p : 1 + 9 * suc i ≡ 1 + 9 * i + 9 = omega arith in
        next (ap (λ (n : ℕ). bodies f (before f (suc i)) (entries_from m f n)) p ∙ d)

contents_told : (f : List ℕ) (r : Refused) → contents_fault f ≡ Some r → Told f r
contents_told f r e = elim (first_some (contents.long f) _ r e) [
  | inl h ↦ (let x = when_some _ _ r h in long (ltb-true _ _ x.0) x.1)
  | inr e2 ↦ elim (first_some (contents.short f) _ r e2) [
    | inl h ↦ (let x = when_some _ _ r h in short (ltb-true _ _ x.0) x.1)
    | inr e3 ↦ elim (first_some (contents.miscounted f) _ r e3) [
      | inl h ↦ (let x = when_some _ _ r h in uncounted (not-true _ x.0) x.1)
      | inr e4 ↦ elim (first_some (contents.misordered 1 1 1 (entries f)) _ r e4) [
        | inl h ↦ misnamed_all f r h
        | inr h ↦ misplaced_from f (get_or f 0 0) 0 (contents_end f) r (omega arith) refl h
      ]
    ]
  ]
]

pub refusals_told : (f : List ℕ) (r : Refused) → reading f ≡ refused r → Told f r
refusals_told f r e = by (contents_fault f) refl e
  where
    by : (o : Option Refused) → contents_fault f ≡ o → unless o (bodies f nothing (entries f)) ≡ refused r → Told f r
    by (Some x) q d = contents_told f r (q ∙ ap Some (same_refused x r d))
    by None q d = bodies_told f (get_or f 0 0) 0 r (omega arith) d
