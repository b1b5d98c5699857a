-- With k optional counts present, every sum from low_sum + k to reach k is that of a filling, and no other.
use Rattle.std.proofs.Common.{◌≡◌, ℕ, zero, suc, ◌+◌, ◌-◌, ◌<◌, ◌≤◌, max, true, List, [], ◌∷◌, refl, inl, inr, arith}
use Rattle.std.proofs.lemmas.Bool.{leb-true, and_parts, cases_lt}
use Rattle.bounds.specs.declared.row.Row.{Row}
use Rattle.bounds.specs.Boards.{sound, Fills}
use Rattle.plates.specs.Plates.{sum, one, present}
use Rattle.plates.specs.Form.{certain, optional, low_sum, reach}
use Rattle.plates.proofs.Tops.{row, top_zero, top_leaves, top_certain, top_absent, top_full}

pub one_pos : (n : ℕ) → 0 < n → one n ≡ 1
one_pos zero p = omega arith
one_pos (suc n) p = refl

-- k optional counts are present in f
pub record Split (f : List ℕ) (cs : List Row) (k : ℕ) : Type 0 where
  pub number : present f ≡ certain cs + k
  pub most : k ≤ optional cs
  pub least_sum : low_sum cs + k ≤ sum f
  pub most_sum : sum f ≤ reach cs k

split_step : (l h n : ℕ) (f : List ℕ) (cs : List Row) → l ≤ n → n ≤ h → (k : ℕ) × Split f cs k → (k : ℕ) × Split (n ∷ f) (row l h ∷ cs) k
split_step zero h zero f cs p q (k, s) = (k, record { number = omega arith; most = omega arith; least_sum = omega arith; most_sum = omega (arith, top_leaves (row 0 h) cs k) })
split_step zero zero (suc n) f cs p q (k, s) = absurd (omega arith)
split_step zero (suc h) (suc n) f cs p q (k, s) = (suc k, record { number = omega arith; most = omega arith; least_sum = omega arith; most_sum = omega arith })
split_step (suc l) h zero f cs p q (k, s) = absurd (omega arith)
split_step (suc l) h (suc n) f cs p q (k, s) = (k, record { number = omega arith; most = omega arith; least_sum = omega arith; most_sum = omega (arith, top_certain l h cs k) })

pub split : (f : List ℕ) (cs : List Row) → Fills f cs → (k : ℕ) × Split f cs k
split [] [] h = (0, record { number = refl; most = omega arith; least_sum = omega arith; most_sum = omega arith })
split [] (r ∷ cs) h = absurd h
split (n ∷ f) [] h = absurd h
split (n ∷ f) (r ∷ cs) h = split_step r.low r.high n f cs h.0 h.1 (split f cs h.2)

abbrev Room : List Row → Type 0
Room cs = (k : ℕ) → k ≤ optional cs → low_sum cs + k ≤ reach cs k

room_step : (l h : ℕ) (cs : List Row) → l ≤ h → Room cs → Room (row l h ∷ cs)
room_step zero zero cs p ih k q = omega (arith, ih k (omega arith), top_absent cs k)
room_step zero (suc h) cs p ih zero q = omega (arith, ih 0 (omega arith), top_zero cs)
room_step zero (suc h) cs p ih (suc k) q = omega (arith, ih k (omega arith))
room_step (suc l) h cs p ih k q = omega (arith, ih k (omega arith), top_certain l h cs k)

pub room : (cs : List Row) → sound cs ≡ true → Room cs
room [] s k q = omega arith
room (r ∷ cs) s k q = let t = and_parts _ _ s in room_step r.low r.high cs (leb-true r.low r.high t.0) (room cs t.1) k q

pub record Filling (cs : List Row) (k s : ℕ) : Type 0 where
  pub counts : List ℕ
  pub fills : Fills counts cs
  pub adds : sum counts ≡ s
  pub number : present counts ≡ certain cs + k

abbrev Attains : List Row → Type 0
Attains cs = (k s : ℕ) → k ≤ optional cs → low_sum cs + k ≤ s → s ≤ reach cs k → Filling cs k s

-- a count in front of a filling
with_count : (l h n : ℕ) (cs : List Row) (k j s : ℕ) → l ≤ n → n ≤ h → n ≤ s → one n + (certain cs + k) ≡ certain (row l h ∷ cs) + j
    → Filling cs k (s - n) → Filling (row l h ∷ cs) j s
with_count l h n cs k j s p q u e f = record {
  counts = n ∷ f.counts;
  fills = (p, q, f.fills);
  adds = omega (arith, f.adds);
  number = omega (arith, f.number);
}

attains_step : (l h : ℕ) (cs : List Row) → l ≤ h → Room cs → Attains cs → Attains (row l h ∷ cs)
attains_step zero zero cs p rm ih k s q a b = with_count 0 0 0 cs k k s (omega arith) (omega arith) (omega arith) (omega arith)
    (ih k (s - 0) (omega arith) (omega arith) (omega (arith, top_absent cs k)))
attains_step zero (suc h) cs p rm ih zero s q a b = with_count 0 (suc h) 0 cs 0 0 s (omega arith) (omega arith) (omega arith) (omega arith)
    (ih 0 (s - 0) (omega arith) (omega arith) (omega arith))
attains_step zero (suc h) cs p rm ih (suc k) s q a b =
    elim (cases_lt (suc h + reach cs k) s) [
      | inl u ↦ let more : suc k ≤ optional cs = elim (cases_lt k (optional cs)) [ inl v ↦ v | inr v ↦ absurd (omega (arith, top_full cs k v)) ] in
          with_count 0 (suc h) 0 cs (suc k) (suc k) s (omega arith) (omega arith) (omega arith) (omega arith) (ih (suc k) (s - 0) more (omega arith) (omega arith))
      | inr u ↦ let n = max 1 (s - reach cs k) in let r = rm k (omega arith) in
          with_count 0 (suc h) n cs k (suc k) s (omega arith) (omega arith) (omega arith) (omega (arith, one_pos n (omega arith))) (ih k (s - n) (omega arith) (omega arith) (omega arith))
    ]
attains_step (suc l) h cs p rm ih k s q a b =
    let n = max (suc l) (s - reach cs k) in let r = rm k (omega arith) in let e = top_certain l h cs k in
    with_count (suc l) h n cs k k s (omega arith) (omega arith) (omega arith) (omega (arith, one_pos n (omega arith))) (ih k (s - n) (omega arith) (omega arith) (omega arith))

pub attains : (cs : List Row) → sound cs ≡ true → Attains cs
attains [] s k n q a b = record { counts = []; fills = tt; adds = omega arith; number = omega arith }
attains (r ∷ cs) s k n q a b = let t = and_parts _ _ s in
    attains_step r.low r.high cs (leb-true r.low r.high t.0) (room cs t.1) (attains cs t.1) k n q a b
