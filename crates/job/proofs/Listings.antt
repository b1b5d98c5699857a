-- The scans of the entries: what is left of them decides.
use Rattle.std.proofs.Common.{◌≡◌, ℕ, zero, suc, ◌+◌, ◌-◌, ◌*◌, ◌<◌, ◌≤◌, leb, Bool, true, false, cond, ◌&&◌, eqb, ◌⊎◌, List, ◌∷◌, Some, None, Option, sym, refl, ap, ◌∙◌, inl, inr, arith}
use Rattle.std.proofs.lemmas.Bool.{cond-true, cond-false, eq-eqb, ne_eqb, le-leb, lt-leb, and_left, and_right, and_from}
use Rattle.records.specs.Forms.{between}
use Rattle.records.specs.Refusals.{line}
use Rattle.records.specs.declared.refused.Refused.{Refused}
use Rattle.job.specs.declared.entry.Entry.{Entry}
use Rattle.job.specs.Contents.{entry_at, entries_from, misordered, misplaced, ends}

pub never : {A : Type 0} (x : Refused) → ◌≡◌ {A = Option Refused} None (Some x) → A
never x e = let z : ◌≡◌ {A = ℕ} 0 1 = cc in absurd (omega arith)

-- the entries from the one of number i on
abbrev pub left : List ℕ → ℕ → ℕ → List Entry
left f n i = entries_from (n - i) f (1 + 9 * i)

pub left_more : (f : List ℕ) (n i : ℕ) → i < n → left f n i ≡ entry_at f (1 + 9 * i) ∷ left f n (i + 1)
left_more f n i h = at (n - (i + 1)) (omega arith)
  where
    at : (m : ℕ) → n - i ≡ suc m → left f n i ≡ entry_at f (1 + 9 * i) ∷ entries_from m f (1 + 9 * (i + 1))
    at m e = ap (λ (k : ℕ). entries_from k f (1 + 9 * i)) e ∙ ap (λ (p : ℕ). entry_at f (1 + 9 * i) ∷ entries_from m f p) (omega arith)

misordered_more : (f : List ℕ) (n i low high : ℕ) (e : Entry) (all : Option Refused) → i < n → e ≡ entry_at f (1 + 9 * i)
    → misordered low high (1 + 9 * i) (left f n i) ≡ all
    → cond (between low high e.kind) (misordered (e.kind + 1) 4 (1 + 9 * (i + 1)) (left f n (i + 1))) (Some (line 3 0 (1 + 9 * i))) ≡ all
misordered_more f n i low high e all h d from =
    ap (λ (p : ℕ). cond (between low high e.kind) (misordered (e.kind + 1) 4 p (left f n (i + 1))) (Some (line 3 0 (1 + 9 * i)))) (omega arith)
    ∙ ap (λ (x : Entry). misordered low high (1 + 9 * i) (x ∷ left f n (i + 1))) d
    ∙ sym (ap (misordered low high (1 + 9 * i)) (left_more f n i h)) ∙ from

pub kind_on : (f : List ℕ) (n i low high : ℕ) (e : Entry) (all : Option Refused) → i < n → e ≡ entry_at f (1 + 9 * i)
    → between low high e.kind ≡ true → misordered low high (1 + 9 * i) (left f n i) ≡ all
    → misordered (e.kind + 1) 4 (1 + 9 * (i + 1)) (left f n (i + 1)) ≡ all
kind_on f n i low high e all h d fits from =
    ap (λ (t : Bool). cond t (misordered (e.kind + 1) 4 (1 + 9 * (i + 1)) (left f n (i + 1))) (Some (line 3 0 (1 + 9 * i)))) (sym fits)
    ∙ misordered_more f n i low high e all h d from

pub kind_off : (f : List ℕ) (n i low high : ℕ) (e : Entry) (all : Option Refused) → i < n → e ≡ entry_at f (1 + 9 * i)
    → between low high e.kind ≡ false → misordered low high (1 + 9 * i) (left f n i) ≡ all → all ≡ Some (line 3 0 (1 + 9 * i))
kind_off f n i low high e all h d out from =
    sym (ap (λ (t : Bool). cond t (misordered (e.kind + 1) 4 (1 + 9 * (i + 1)) (left f n (i + 1))) (Some (line 3 0 (1 + 9 * i)))) (sym out)
    ∙ misordered_more f n i low high e all h d from)

ends_in : (f : List ℕ) (m p end all : ℕ) → end ≤ all → (m ≡ 0 → end ≡ all) → ends (entries_from m f p) end all ≡ true
ends_in f zero p end all h g = eq-eqb end all (g refl)
ends_in f (suc m) p end all h g = le-leb end all h

ends_out : (f : List ℕ) (m p end all : ℕ) → (all < end) ⊎ ((m ≡ 0) × (end ≡ all → ⊥)) → ends (entries_from m f p) end all ≡ false
ends_out f zero p end all (inl h) = ne_eqb end all (λ e. omega arith)
ends_out f zero p end all (inr h) = ne_eqb end all h.1
ends_out f (suc m) p end all (inl h) = lt-leb end all h
ends_out f (suc m) p end all (inr h) = absurd (omega (arith, h.0))

misplaced_more : (f : List ℕ) (n i size start : ℕ) (e : Entry) (all : Option Refused) → i < n → e ≡ entry_at f (1 + 9 * i)
    → misplaced size start (1 + 9 * i) (left f n i) ≡ all
    → cond (eqb e.offset start && ends (left f n (i + 1)) (e.offset + e.size) size)
    (misplaced size (e.offset + e.size) (1 + 9 * (i + 1)) (left f n (i + 1))) (Some (line 4 0 (1 + 9 * i))) ≡ all
misplaced_more f n i size start e all h d from =
    ap (λ (p : ℕ). cond (eqb e.offset start && ends (left f n (i + 1)) (e.offset + e.size) size)
    (misplaced size (e.offset + e.size) p (left f n (i + 1))) (Some (line 4 0 (1 + 9 * i)))) (omega arith)
    ∙ ap (λ (x : Entry). misplaced size start (1 + 9 * i) (x ∷ left f n (i + 1))) d
    ∙ sym (ap (misplaced size start (1 + 9 * i)) (left_more f n i h)) ∙ from

-- an entry that is the last, told by its place
follows_as : (f : List ℕ) (n i end all : ℕ) (last : Bool) → i < n → last ≡ eqb (1 + 9 * i + 9) (1 + 9 * n)
    → ends (left f n (i + 1)) end all ≡ cond last (eqb end all) (leb end all)
follows_as f n i end all last h is = at (n - (i + 1)) (refl)
  where
    at : (m : ℕ) → n - (i + 1) ≡ m → ends (entries_from m f (1 + 9 * (i + 1))) end all ≡ cond last (eqb end all) (leb end all)
    at zero e = sym (cond-true last (eqb end all) (leb end all) (is ∙ eq-eqb _ _ (omega arith)))
    at (suc m) e = sym (cond-false last (eqb end all) (leb end all) (is ∙ ne_eqb _ _ (λ k. omega arith)))

laid_more : (f : List ℕ) (n i size start : ℕ) (e : Entry) (last : Bool) (all : Option Refused) → i < n → e ≡ entry_at f (1 + 9 * i) → last ≡ eqb (1 + 9 * i + 9) (1 + 9 * n)
    → misplaced size start (1 + 9 * i) (left f n i) ≡ all
    → cond (eqb e.offset start && cond last (eqb (e.offset + e.size) size) (leb (e.offset + e.size) size))
    (misplaced size (e.offset + e.size) (1 + 9 * (i + 1)) (left f n (i + 1))) (Some (line 4 0 (1 + 9 * i))) ≡ all
laid_more f n i size start e last all h d is from =
    ap (λ (t : Bool). cond (eqb e.offset start && t) (misplaced size (e.offset + e.size) (1 + 9 * (i + 1)) (left f n (i + 1))) (Some (line 4 0 (1 + 9 * i))))
    (sym (follows_as f n i (e.offset + e.size) size last h is))
    ∙ misplaced_more f n i size start e all h d from

module _ (f : List ℕ) (n i size start : ℕ) (e : Entry) (last : Bool) (all : Option Refused) (h : i < n) (d : e ≡ entry_at f (1 + 9 * i)) (is : last ≡ eqb (1 + 9 * i + 9) (1 + 9 * n))
    (from : misplaced size start (1 + 9 * i) (left f n i) ≡ all) where
  abbrev fitting : Bool
  fitting = eqb e.offset start && cond last (eqb (e.offset + e.size) size) (leb (e.offset + e.size) size)

  pub laid_on : fitting ≡ true → misplaced size (e.offset + e.size) (1 + 9 * (i + 1)) (left f n (i + 1)) ≡ all
  laid_on t = sym (cond-true fitting _ _ t) ∙ laid_more f n i size start e last all h d is from

  pub laid_off : fitting ≡ false → all ≡ Some (line 4 0 (1 + 9 * i))
  laid_off t = sym (laid_more f n i size start e last all h d is from) ∙ cond-false fitting _ _ t

pub place_on : (f : List ℕ) (n i size start : ℕ) (e : Entry) (all : Option Refused) → i < n → e ≡ entry_at f (1 + 9 * i)
    → e.offset ≡ start → e.offset + e.size ≤ size → (i + 1 ≡ n → e.offset + e.size ≡ size)
    → misplaced size start (1 + 9 * i) (left f n i) ≡ all
    → misplaced size (e.offset + e.size) (1 + 9 * (i + 1)) (left f n (i + 1)) ≡ all
place_on f n i size start e all h d o l g from =
    ap (λ (t : Bool). cond t (misplaced size (e.offset + e.size) (1 + 9 * (i + 1)) (left f n (i + 1))) (Some (line 4 0 (1 + 9 * i))))
    (sym (and_from _ _ (eq-eqb e.offset start o) (ends_in f (n - (i + 1)) (1 + 9 * (i + 1)) (e.offset + e.size) size l (λ z. g (omega arith)))))
    ∙ misplaced_more f n i size start e all h d from

pub place_off : (f : List ℕ) (n i size start : ℕ) (e : Entry) (all : Option Refused) → i < n → e ≡ entry_at f (1 + 9 * i)
    → (e.offset ≡ start → ⊥) ⊎ ((size < e.offset + e.size) ⊎ ((i + 1 ≡ n) × (e.offset + e.size ≡ size → ⊥)))
    → misplaced size start (1 + 9 * i) (left f n i) ≡ all → all ≡ Some (line 4 0 (1 + 9 * i))
place_off f n i size start e all h d out from =
    sym (ap (λ (t : Bool). cond t (misplaced size (e.offset + e.size) (1 + 9 * (i + 1)) (left f n (i + 1))) (Some (line 4 0 (1 + 9 * i)))) (sym (wrong out))
    ∙ misplaced_more f n i size start e all h d from)
  where
    wrong : (e.offset ≡ start → ⊥) ⊎ ((size < e.offset + e.size) ⊎ ((i + 1 ≡ n) × (e.offset + e.size ≡ size → ⊥)))
        → (eqb e.offset start && ends (left f n (i + 1)) (e.offset + e.size) size) ≡ false
    wrong (inl a) = and_left _ _ (ne_eqb e.offset start a)
    wrong (inr (inl a)) = and_right _ _ (ends_out f (n - (i + 1)) (1 + 9 * (i + 1)) (e.offset + e.size) size (inl a))
    wrong (inr (inr a)) = and_right _ _ (ends_out f (n - (i + 1)) (1 + 9 * (i + 1)) (e.offset + e.size) size (inr (omega (arith, a.0), a.1)))
