-- The trials of the trial memory.
use Rattle.std.proofs.Common.{◌≡◌, ℕ, zero, suc, ◌+◌, ◌-◌, ◌*◌, ◌<◌, ◌≤◌, Bool, true, false, ◌≢◌, List, ◌∷◌, length, get_or, take, drop, set, sym, refl, ap, ◌∙◌, ⊎_elim, mul-le-mul_right, suc-mul, add-mul, one-mul, add-one, arith}
use borrow.Rule.Slice.PartMut.{put_mid}
use Rattle.std.proofs.lemmas.Slice.{take-put_mid_below, between-put_mid, drop-put_mid}
use Rattle.std.proofs.lemmas.List.{take-take, drop-take, get_or-set_same, get_or-set_other}
use Rattle.std.proofs.lemmas.Bool.{cases_lt, cond-true, cond-false, eq-eqb, ne_eqb}
use Rattle.bounds.specs.declared.row.Row.{Row}
use Rattle.board.specs.declared.control.Trial.{Trial}
use Rattle.board.specs.Calls as calls
use Rattle.board.specs.Calls.{is_open, older, at}
use Rattle.board.specs.Records.{none_trial}
use Rattle.board.specs.Held.{slot, trial_at, trials_of, Pasted}

module _ (n : ℕ) where
  pub length_trials : (ts : List Trial) (a : List Row) (d : ℕ) → length (trials_of n ts a d) ≡ d
  length_trials ts a zero = refl
  length_trials ts a (suc d) = ap suc (length_trials ts a d)

  pub room_for : (d m : ℕ) → d < m → d * n + n ≤ m * n
  room_for d m h = rw (← suc-mul d n) (mul-le-mul_right n h)

  pub next_place : (d : ℕ) (rows : List Row) → length rows ≡ n → d * n + length rows ≡ (d + 1) * n
  next_place d rows l = omega (arith, add-mul d 1 n, one-mul n)

  same_slot : (a b : List Row) (m : ℕ) → take (suc m * n) b ≡ take (suc m * n) a → slot n m b ≡ slot n m a
  same_slot a b m e =
      let f = rw (suc-mul m n) at e in
      sym (drop-take (m * n) n b) ∙ ap (drop (m * n)) f ∙ drop-take (m * n) n a

  -- the first d trials depend on the first d records and on the rows of the first d places alone
  pub same_trials : (ts us : List Trial) (a b : List Row) (d : ℕ) → ((i : ℕ) → i < d → get_or us i none_trial ≡ get_or ts i none_trial)
      → take (d * n) b ≡ take (d * n) a → trials_of n us b d ≡ trials_of n ts a d
  same_trials ts us a b zero r e = refl
  same_trials ts us a b (suc d) r e =
      let h : d * n ≤ suc d * n = mul-le-mul_right n (omega arith) in
      let front : take (d * n) b ≡ take (d * n) a = sym (take-take _ _ b h) ∙ ap (take (d * n)) e ∙ take-take _ _ a h in
      let here = r d (omega arith) in
      let rows = same_slot a b d e in
      let rest = same_trials ts us a b d (λ i k. r i (omega arith)) front in
      cc

  pub none_found : (ts : List Trial) (a : List Row) (k d : ℕ) → ((i : ℕ) → i < d → (get_or ts i none_trial).serial ≢ k) → is_open k (trials_of n ts a d) ≡ false
  none_found ts a k zero h = refl
  none_found ts a k (suc d) h = cond-false _ _ _ (ne_eqb _ _ (h d (omega arith))) ∙ none_found ts a k d (λ i l. h i (omega arith))

  -- the trial at the place p is the newest one found, of d
  pub record Found (ts : List Trial) (a : List Row) (p d : ℕ) (one : Bool) (rest : List calls.Trial) (trial : calls.Trial → calls.Trial) : Type 0 where
    pub below : p < d
    pub is_open_is : one ≡ true
    pub rest_is : rest ≡ trials_of n ts a p
    pub trial_is : (x : calls.Trial) → trial x ≡ trial_at n ts a p

  pub some_found : (ts : List Trial) (a : List Row) (k p d : ℕ) → p < d → (get_or ts p none_trial).serial ≡ k
      → ((i : ℕ) → p < i → i < d → (get_or ts i none_trial).serial ≢ k)
      → let os = trials_of n ts a d in Found ts a p d (is_open k os) (older k os) (at k os)
  some_found ts a k p zero l e o = absurd (omega arith)
  some_found ts a k p (suc d) l e o = ⊎_elim
      (λ (h : p < d). let r = some_found ts a k p d h e (λ i m q. o i m (omega arith)) in let c = ne_eqb _ _ (o d h (omega arith)) in record {
        below = l;
        is_open_is = cond-false _ _ _ c ∙ r.is_open_is;
        rest_is = cond-false _ _ _ c ∙ r.rest_is;
        trial_is = λ x. cond-false _ _ _ c ∙ r.trial_is x;
      })
      (λ (h : d ≤ p). let q : d ≡ p = omega arith in let c = eq-eqb _ _ (ap (λ i. (get_or ts i none_trial).serial) q ∙ e) in record {
        below = l;
        is_open_is = cond-true _ _ _ c;
        rest_is = cond-true _ _ _ c ∙ ap (trials_of n ts a) q;
        trial_is = λ x. cond-true _ _ _ c ∙ ap (trial_at n ts a) q;
      }) (cases_lt p d)

  -- what opening adds to the trials
  pub one_more : (ts : List Trial) (t : Trial) (rows a b : List Row) (d : ℕ) → d < length ts → length rows ≡ n → Pasted (d * n) rows a b
      → trials_of n (set ts d t) b (d + 1) ≡ record { serial = t.serial; was_void = t.void; was_rows = rows } ∷ trials_of n ts a d
  one_more ts t rows a b d h l p =
      let here = get_or-set_same ts d t none_trial h in
      let there : slot n d b ≡ rows = ap (λ m. take m (drop (d * n) b)) (sym l) ∙ p.middle in
      let rest = same_trials ts (set ts d t) a b d (λ i k. let ne : i ≢ d = omega arith in get_or-set_other ts d i t none_trial ne) p.before in
      rw add-one (cc)

-- what a copy into a part of a list leaves
pub pasted_at : (p n : ℕ) (rows xs ys : List Row) → p + n ≤ length xs → length rows ≡ n → ys ≡ rows → Pasted p rows xs (put_mid p (p + n - p) xs ys)
pasted_at p n rows xs ys h l e =
    let m : length ys ≡ n = ap length e ∙ l in
    let k : n ≡ p + n - p = omega arith in
    record {
      before = take-put_mid_below p _ xs ys p (omega arith) (omega arith);
      middle = ap (λ q. take q (drop p (put_mid p (p + n - p) xs ys))) (l ∙ k) ∙ between-put_mid p (p + n - p) xs ys (p + n) (omega arith) (omega arith) ∙ e;
      after = ap (λ q. drop (p + q) (put_mid p (p + n - p) xs ys)) l ∙ drop-put_mid p _ xs ys (p + n) (omega arith) (omega arith) (omega arith) ∙ ap (λ q. drop (p + q) xs) (sym l);
    }
