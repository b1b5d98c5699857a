-- The bodies one after another: what is left of them decides, and what was found is held.
use Rattle.std.proofs.Common.{◌≡◌, ℕ, zero, suc, ◌+◌, ◌-◌, ◌*◌, ◌<◌, ◌≤◌, Bool, true, false, cond, ltb, List, [], ◌∷◌, ◌++◌, map, length, get_or, take, drop, sym, refl, ap, ◌∙◌, arith}
use Rattle.std.proofs.lemmas.List.{length-take, length-drop, take-take, take-append-le, drop_all, drop_at, length-take-le, drop-take}
use Rattle.records.specs.Forms.{cells_form}
use Rattle.job.specs.declared.tally.Tally.{Tally}
use Rattle.job.specs.Reading.{records, rules, found}
use Rattle.job.specs.Tallies.{spaced, held, tallied}

pub length_spaced : (n i : ℕ) → length (spaced n i) ≡ n
length_spaced zero i = refl
length_spaced (suc n) i = ap suc (length_spaced n (i + 4))

-- the cells stand 4 bytes apart
pub cells_spaced : (b : List ℕ) (start k i : ℕ) → map (λ j. start + j) (records cells_form b k i) ≡ spaced (length (records cells_form b k i)) (start + i)
cells_spaced b start zero i = refl
cells_spaced b start (suc k) i = by (ltb (i + 4) (length b)) (cells_spaced b start k (i + 4))
  where
    by : (t : Bool) → map (λ j. start + j) (records cells_form b k (i + 4)) ≡ spaced (length (records cells_form b k (i + 4))) (start + (i + 4))
        → map (λ j. start + j) (i ∷ cond t (records cells_form b k (i + 4)) []) ≡ spaced (length (i ∷ cond t (records cells_form b k (i + 4)) [])) (start + i)
    by false e = refl
    by true e = ap (λ (ps : List ℕ). (start + i) ∷ ps) (e ∙ ap (spaced (length (records cells_form b k (i + 4)))) (omega arith))

-- a table that was written from `first` on
pub record Written (first end : ℕ) (before after ps : List ℕ) : Type 0 where
  pub forward : first ≤ end
  pub inside : end ≤ length after
  pub room : first ≤ length before
  pub placed : take end after ≡ take first before ++ ps

kept : (first end : ℕ) (before after ps : List ℕ) → Written first end before after ps → (c : ℕ) → c ≤ first → take c after ≡ take c before
kept first end before after ps w c h =
    let l : c ≤ end = omega (arith, w.forward) in
    let k : c ≤ length (take first before) = omega (arith, length-take-le first before w.room) in
    sym (take-take c end after l) ∙ ap (take c) w.placed ∙ take-append-le c (take first before) ps k ∙ take-take c first before h

empty : (a : ℕ) (xs : List ℕ) → drop a (take a xs) ≡ []
empty a xs = drop_all a (take a xs) (omega (arith, length-take a xs))

new : (first end : ℕ) (before after ps : List ℕ) → Written first end before after ps → drop first (take end after) ≡ ps
new first end before after ps w = ap (drop first) w.placed ∙ drop_at (take first before) ps first (length-take-le first before w.room)

-- no rule of a kind from `low` on is held yet
pub record Fresh (t : Tally) (low : ℕ) : Type 0 where
  pub plates : low ≤ 2 → t.plates ≡ 0
  pub triples : low ≤ 3 → t.triples ≡ t.plates
  pub totals : low ≤ 4 → t.totals ≡ t.triples
  pub plates_first : t.plates ≤ t.triples
  pub totals_last : t.triples ≤ t.totals

pub rules_held : (t : Tally) (low : ℕ) (table : List ℕ) → Fresh t low → t.totals ≤ length table → rules (held t table) ≡ t.totals
rules_held t low table r h =
    let a = length-take-le t.plates table (omega (arith, r.plates_first, r.totals_last)) in
    let b = length-drop t.plates (take t.triples table) in
    let c = length-take-le t.triples table (omega (arith, r.totals_last)) in
    let d = length-drop t.triples (take t.totals table) in
    let e = length-take-le t.totals table h in
    omega (arith, r.plates_first, r.totals_last)

pub fresh_on : (t : Tally) (low k start end : ℕ) → Fresh t low → low ≤ k → 1 ≤ k → k ≤ 4 → t.totals ≤ end → Fresh (tallied t k start end) (k + 1)
fresh_on t low zero start end r l h g e = absurd (omega arith)
fresh_on t low (suc zero) start end r l h g e = record {
  plates = λ _. r.plates (omega arith);
  triples = λ _. r.triples (omega arith);
  totals = λ _. r.totals (omega arith);
  plates_first = r.plates_first;
  totals_last = r.totals_last;
}
fresh_on t low (suc (suc zero)) start end r l h g e = record {
  plates = λ n. absurd (omega arith);
  triples = λ _. refl;
  totals = λ _. refl;
  plates_first = omega arith;
  totals_last = omega arith;
}
fresh_on t low (suc (suc (suc zero))) start end r l h g e = record {
  plates = λ n. absurd (omega arith);
  triples = λ n. absurd (omega arith);
  totals = λ _. refl;
  plates_first = omega (arith, r.plates_first, r.totals_last, e);
  totals_last = omega arith;
}
fresh_on t low (suc (suc (suc (suc zero)))) start end r l h g e = record {
  plates = λ n. absurd (omega arith);
  triples = λ n. absurd (omega arith);
  totals = λ n. absurd (omega arith);
  plates_first = r.plates_first;
  totals_last = omega (arith, r.totals_last, e);
}
fresh_on t low (suc (suc (suc (suc (suc k))))) start end r l h g e = absurd (omega arith)

-- what a body adds is held
pub held_on : (t : Tally) (low k start end : ℕ) (before after ps : List ℕ) → Fresh t low → low ≤ k → 1 ≤ k → k ≤ 4
    → Written t.totals end before after ps → (k ≡ 1 → ps ≡ spaced (end - t.totals) start)
    → found (held t before) k ps ≡ held (tallied t k start end) after
held_on t low zero start end before after ps r l h g w c = absurd (omega arith)
held_on t low (suc zero) start end before after ps r l h g w c =
    let same = kept t.totals end before after ps w in
    λ i. record {
      cells = c refl i;
      plates = sym (same t.plates (omega (arith, r.plates_first, r.totals_last))) i;
      triples = ap (drop t.plates) (sym (same t.triples r.totals_last)) i;
      totals = ap (drop t.triples) (sym (same t.totals (omega arith))) i;
    }
held_on t low (suc (suc zero)) start end before after ps r l h g w c =
    let p = r.plates (omega arith) in let q = r.triples (omega arith) in let s = r.totals (omega arith) in
    λ i. record {
      cells = spaced t.cells t.start;
      plates = (sym (new t.totals end before after ps w) ∙ ap (λ (n : ℕ). drop n (take end after)) (s ∙ q ∙ p)) i;
      triples = (ap (λ (n : ℕ). drop t.plates (take n before)) q ∙ empty t.plates before ∙ sym (empty end after)) i;
      totals = (ap (λ (n : ℕ). drop t.triples (take n before)) s ∙ empty t.triples before ∙ sym (empty end after)) i;
    }
held_on t low (suc (suc (suc zero))) start end before after ps r l h g w c =
    let q = r.triples (omega arith) in let s = r.totals (omega arith) in
    λ i. record {
      cells = spaced t.cells t.start;
      plates = sym (kept t.totals end before after ps w t.plates (omega (arith, r.plates_first, r.totals_last))) i;
      triples = (sym (new t.totals end before after ps w) ∙ ap (λ (n : ℕ). drop n (take end after)) (s ∙ q)) i;
      totals = (ap (λ (n : ℕ). drop t.triples (take n before)) s ∙ empty t.triples before ∙ sym (empty end after)) i;
    }
held_on t low (suc (suc (suc (suc zero)))) start end before after ps r l h g w c =
    let same = kept t.totals end before after ps w in let s = r.totals (omega arith) in
    λ i. record {
      cells = spaced t.cells t.start;
      plates = sym (same t.plates (omega (arith, r.plates_first, r.totals_last))) i;
      triples = ap (drop t.plates) (sym (same t.triples r.totals_last)) i;
      totals = (sym (new t.totals end before after ps w) ∙ ap (λ (n : ℕ). drop n (take end after)) s) i;
    }
held_on t low (suc (suc (suc (suc (suc k))))) start end before after ps r l h g w c = absurd (omega arith)

-- a part of the table
pub part_is : (xs : List ℕ) (start end : ℕ) → start ≤ end → take (end - start) (drop start xs) ≡ drop start (take end xs)
part_is xs start end h =
    let z : start + (end - start) ≡ end = omega arith in sym (drop-take start (end - start) xs) ∙ ap (λ n. drop start (take n xs)) z

pub get_or_spaced : (n i j : ℕ) → j < n → get_or (spaced n i) j 0 ≡ i + 4 * j
get_or_spaced zero i j h = absurd (omega arith)
get_or_spaced (suc n) i zero h = omega arith
get_or_spaced (suc n) i (suc j) h = get_or_spaced n (i + 4) j (omega arith) ∙ omega arith
