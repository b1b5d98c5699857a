-- Stated of what this crate defines, and used by none of its proofs.
use Rattle.std.proofs.Common.{◌≡◌, ℕ, ◌-◌, ◌<◌, ◌≤◌, min, true, leb, List, [], length, get_or, take, drop, Some, None, Option, sym, ap, ◌∙◌, inl, inr, arith}
use Rattle.std.proofs.lemmas.Bool.{cases_lt, ltb-false, not-false, and_parts, leb-true}
use Rattle.std.proofs.lemmas.List.{take_all, drop_all, length-take}
use Rattle.records.specs.Forms.{between}
use Rattle.records.specs.declared.refused.Refused.{Refused}
use Rattle.job.specs.Contents.{entries, long, short, miscounted, contents_fault}
use Rattle.job.specs.Reading.{refused, unless, nothing, bodies, reading}
use Rattle.job.proofs.Gathered.{part_is}
use Rattle.job.proofs.Gathering.{first_none, when_none}

-- a part of the table, and of a table that ends before it
clipped : (xs : List ℕ) (end least : ℕ) → least ≡ min end (length xs) → take least xs ≡ take end xs
clipped xs end least e = elim (cases_lt (length xs) end) [
  | inl l ↦ (let z : length xs ≤ least = omega arith in take_all least xs z) ∙ sym (let y : length xs ≤ end = omega arith in take_all end xs y)
  | inr l ↦ (let z : least ≡ end = omega arith in ap (λ (n : ℕ). take n xs) z)
]

part_cut : (xs : List ℕ) (start end least : ℕ) → start < least → least ≡ min end (length xs)
    → take (least - start) (drop start xs) ≡ drop start (take end xs)
part_cut xs start end least h e = part_is xs start least (omega arith) ∙ ap (drop start) (clipped xs end least e)

pub part_none : (xs : List ℕ) (start end least : ℕ) → least ≤ start → least ≡ min end (length xs) → [] ≡ drop start (take end xs)
part_none xs start end least h e = sym (drop_all start (take end xs) (omega (arith, length-take end xs)))

pub refused_contents : (f : List ℕ) (r : Refused) → contents_fault f ≡ Some r → reading f ≡ refused r
refused_contents f r e = ap (λ (o : Option Refused). unless o (bodies f nothing (entries f))) e

-- a file whose contents have no fault
module _ (f : List ℕ) (none : contents_fault f ≡ None) where
  short_file : length f ≤ 65535
  short_file = ltb-false _ _ (when_none _ _ (first_none (long f) _ none).0)

  pub few_entries : get_or f 0 0 ≤ 4
  few_entries =
      let c = first_none (miscounted f) _ (first_none (short f) _ (first_none (long f) _ none).1).1 in
      let fits : between 1 4 (get_or f 0 0) ≡ true = not-false _ (when_none _ _ c.0) in
      leb-true (get_or f 0 0) 4 (and_parts (leb 1 (get_or f 0 0)) (leb (get_or f 0 0) 4) fits).1
