-- Digits counted up show the next number, also where they are counted up in place, and number a row. Assumes nothing.
use Prim.Native.Nat.{ℕ, zero, suc, ◌+◌, ◌-◌, ◌/◌, ◌%◌, ◌^◌, ◌≤◌, ◌<◌}
use mathlib.Core.Path.{◌≡◌, refl, sym, ap, ◌∙◌}
use mathlib.Core.List.{List, [], ◌∷◌, ◌++◌, reverse-cons, reverse-append, reverse-reverse}
use native.Mathlib.Nat.{zero-add, suc-ne-zero, pow-succ'}
use native.Mathlib.Numerals.{add-one, sub-one}
use native.Mathlib.Omega.{arith}
use lib.Dec.{ltb}
use lib.ListN.{length, set, take, drop, get_or, replicate, length-set, length-take, length-replicate, replicate-append-replicate, take-append-drop}
use lib.Seq.{sets, sets-eq, set-set, get_or-set_other, length-take-le, take-suc, take-append_seam, append_snoc}
use borrow.Author.Tests.{ltb-true, ltb-false, lt-ltb, le-ltb}
use Rattle.bits.proofs.Truth.{by_truth, if_true, if_false}
use Rattle.output.specs.Text.{text, decimal, increased, next, row_of, row, holding, numbered, Wrote}
use Rattle.output.proofs.Writing.{wrote_one, wrote_more, set_sets, sets_append, text_one, text_more, length_decimal, wrote_held, numbered_there}

-- ---- digits counted up

next_none : next [] ≡ 49 ∷ []
unfolding next increased
next_none = refl

next_low : (p : List ℕ) (b : ℕ) → b < 57 → next (p ++ (b ∷ [])) ≡ p ++ ((b + 1) ∷ [])
unfolding next increased
next_low p b h = simp (reverse-append, reverse-reverse, reverse-cons, lt-ltb b 57 h, if_true)

next_high : (p : List ℕ) (b : ℕ) → 57 ≤ b → next (p ++ (b ∷ [])) ≡ next p ++ (48 ∷ [])
unfolding next increased
next_high p b h = simp (reverse-append, reverse-cons, le-ltb b 57 h, if_false)

module _ (k n : ℕ) (room : n + 1 < 10 ^ suc k) where
  -- below 9, 9, and more with a last digit below 9 or 9
  one_digit : n < 9 → next (text (suc k) n) ≡ text (suc k) (n + 1)
  one_digit h =
      let last : 48 + (n + 1) ≡ 48 + n + 1 = omega arith in
      rw (text_one (suc k) n (suc-ne-zero k) (omega arith), text_one (suc k) (n + 1) (suc-ne-zero k) (omega arith), last) (next_low [] (48 + n) (omega arith))

  digit_more : n ≡ 9 → next (text (suc k) n) ≡ text (suc k) (n + 1)
  digit_more nine =
      let there : k ≡ 0 → ⊥ = λ none. let p = ap (λ (a : ℕ). 10 ^ suc a) none in omega arith in
      rw (nine, text_one (suc k) 9 (suc-ne-zero k) (omega arith), text_more (suc k) 10 (suc-ne-zero k) (omega arith), sub-one, text_one k 1 there (omega arith))
      (next_high [] 57 (omega arith) ∙ rw next_none)

  last_digit : 9 < n → n % 10 < 9 → next (text (suc k) n) ≡ text (suc k) (n + 1)
  last_digit h low =
      let tens : (n + 1) / 10 ≡ n / 10 = omega arith in
      let last : 48 + (n + 1) % 10 ≡ 48 + n % 10 + 1 = omega arith in
      rw (text_more (suc k) n (suc-ne-zero k) h, text_more (suc k) (n + 1) (suc-ne-zero k) (omega arith), sub-one, tens, last)
      (next_low (text k (n / 10)) (48 + n % 10) (omega arith))

  tens_carried : 9 < n → n % 10 ≡ 9 → next (text k (n / 10)) ≡ text k (n / 10 + 1) → next (text (suc k) n) ≡ text (suc k) (n + 1)
  tens_carried h nine before =
      let tens : (n + 1) / 10 ≡ n / 10 + 1 = omega arith in
      let last : 48 + (n + 1) % 10 ≡ 48 = omega arith in
      rw (text_more (suc k) n (suc-ne-zero k) h, text_more (suc k) (n + 1) (suc-ne-zero k) (omega arith), sub-one, tens, last, ← before)
      (next_high (text k (n / 10)) (48 + n % 10) (omega arith))

-- by whether a is below b
by_less : {A : Type 0} (a b : ℕ) → (a < b → A) → (b ≤ a → A) → A
by_less a b f g = by_truth (ltb a b) (λ e. f (ltb-true a b e)) (λ e. g (ltb-false a b e))

-- a number with the digits that the next one needs
text_next : (k n : ℕ) → n + 1 < 10 ^ k → next (text k n) ≡ text k (n + 1)
text_next zero n h = absurd (omega arith)
text_next (suc k) n h =
    let power = pow-succ' 10 k in
    by_less n 9 (one_digit k n h) λ most.
    by_less 9 n
    (λ more. by_less (n % 10) 9 (last_digit k n h more) (λ nine. tens_carried k n h more (omega arith) (text_next k (n / 10) (omega arith))))
    (λ least. digit_more k n h (omega arith))

pub decimal_next : (n : ℕ) → n + 1 < 2 ^ 64 → next (decimal n) ≡ decimal (n + 1)
unfolding decimal
decimal_next n h = text_next _ n (omega arith)

-- ---- digits counted up in place

abbrev zeros : ℕ → List ℕ
zeros n = replicate n 48

length_zeros : (n : ℕ) → length (zeros n) ≡ n
length_zeros n = length-replicate n 48

zeros_more : (n : ℕ) → zeros n ++ (48 ∷ []) ≡ zeros (suc n)
zeros_more n = replicate-append-replicate n 1 48 ∙ ap zeros (add-one n)

zeros_stored : (l : List ℕ) (n : ℕ) → set (sets l 0 (zeros n)) n 48 ≡ sets l 0 (zeros (suc n))
zeros_stored l n =
    let size = length_zeros n in
    rw (← zeros_more n, sets_append l 0 (zeros n) (48 ∷ []), size, zero-add)

-- of l's first k digits those from i on were nines: d has zeros there, and the ones before are still to be counted up
pub record Carried (l : List ℕ) (k i : ℕ) (d : List ℕ) : Type 0 where
  pub within : i ≤ k
  pub kept : length d ≡ length l
  pub stored : d ≡ sets l i (zeros (k - i))
  pub counted : next (take k l) ≡ next (take i l) ++ zeros (k - i)

get_d_sets : (l : List ℕ) (i j : ℕ) (vs : List ℕ) → j < i → get_or (sets l i vs) j 0 ≡ get_or l j 0
get_d_sets l i j [] h = refl
get_d_sets l i j (v ∷ vs) h = get_d_sets (set l i v) (suc i) j vs (omega arith) ∙ get_or-set_other l i j v 0 (λ e. omega arith)

wrote_same : (l : List ℕ) (k : ℕ) → k ≤ length l → Wrote l 0 (take k l) l k
wrote_same l k h =
    let all = length-take-le k l h in
    record {
      result_is = sym (sets-eq (take k l) l 0 (omega arith) ∙ rw (zero-add, all) (take-append-drop k l));
      next_is = omega arith;
    }

module _ {l d : List ℕ} {k : ℕ} where
  same_digit : {j : ℕ} → Carried l k (suc j) d → get_or d j 0 ≡ get_or l j 0
  same_digit {j} c = rw c.stored (get_d_sets l (suc j) j (zeros (k - suc j)) (omega arith))

  stored_before : {j : ℕ} → Carried l k (suc j) d → (b : ℕ) → set d j b ≡ sets (set l j b) (suc j) (zeros (k - suc j))
  stored_before {j} c b = rw c.stored (set_sets l (suc j) j b (zeros (k - suc j)) (omega arith))

  pub carried_more : {i j : ℕ} → i ≡ suc j → Carried l k i d → k ≤ length l → 57 ≤ get_or d j 0 → Carried l k j (set d j 48)
  carried_more {i} {j} e before h nine =
      let c : Carried l k (suc j) d = rw e at before in
      let same = same_digit c in
      let more : k - j ≡ suc (k - suc j) = omega arith in
      record {
        within = omega arith;
        kept = simp length-set c.kept;
        stored = rw more (stored_before c 48);
        counted =
            c.counted
            ∙ rw (more, take-suc l j 0 (omega arith), next_high (take j l) (get_or l j 0) (omega arith)) (append_snoc (next (take j l)) 48 (zeros (k - suc j)));
      }

  pub carried_stop : {i j : ℕ} → i ≡ suc j → Carried l k i d → k ≤ length l → get_or d j 0 < 57
      → Wrote l 0 (next (take k l)) (set d j (get_or d j 0 + 1)) k
  carried_stop {i} {j} e before h low =
      let c : Carried l k (suc j) d = rw e at before in
      let same = same_digit c in
      let size = length_zeros (k - suc j) in
      rw (c.counted, take-suc l j 0 (omega arith), next_low (take j l) (get_or l j 0) (omega arith), same)
      (wrote_more
      (wrote_more (wrote_same l j (omega arith)) (wrote_one l j _ _ refl))
      (record { result_is = rw (add-one j) (stored_before c _); next_is = omega arith }))

  pub carried_end : {i : ℕ} → i ≡ 0 → Carried l k i d → k < length l → Wrote l 0 (next (take k l)) (set (set d k 48) 0 49) (k + 1)
  carried_end e before h =
      let c : Carried l k 0 d = rw e at before in
      let size = length_zeros k in
      let none : k - 0 ≡ k = omega arith in
      rw (c.counted, next_none, none, c.stored, none, zeros_stored)
      (wrote_more
      (wrote_one l 0 49 49 refl)
      (record { result_is = rw (set_sets (set l 0 48) 1 0 49 (zeros k) (omega arith), set-set l 0 48 49); next_is = omega arith }))

-- ---- what the digits of a list show

-- what was stored at the start is read there
take_wrote : (l bytes r : List ℕ) (k : ℕ) → length bytes ≤ length l → Wrote l 0 bytes r k → take k r ≡ bytes
take_wrote l bytes r k h w =
    rw (w.result_is, w.next_is, zero-add, sets-eq bytes l 0 (omega arith))
    (take-append_seam bytes (drop (0 + length bytes) l))

-- what `put_number` leaves
pub number_shown : (digits result : List ℕ) (n k : ℕ) → 20 ≤ length digits
    → Wrote digits 0 (holding digits 20 (decimal n)) result k → take k result ≡ decimal n
number_shown digits result n k h w =
    let few = length_decimal n in
    take_wrote digits (decimal n) result k (omega arith) (wrote_held digits 0 20 (decimal n) h w)

-- digits that show a number are 20 at most
shown_few : (digits : List ℕ) (n k : ℕ) → 21 ≤ length digits → take k digits ≡ decimal n → k ≤ 20
shown_few digits n k h e = let few = length_decimal n in omega (arith, length-take k digits, ap length e)

-- what `count_up` leaves
pub count_shown : (digits result : List ℕ) (n j k : ℕ) → 21 ≤ length digits → n + 1 < 2 ^ 64 → take j digits ≡ decimal n
    → Wrote digits 0 (holding digits (j + 1) (next (take j digits))) result k → take k result ≡ decimal (n + 1)
count_shown digits result n j k h s e w =
    let few = shown_few digits n j h e in
    let more = length_decimal (n + 1) in
    let counted : next (take j digits) ≡ decimal (n + 1) = ap next e ∙ decimal_next n s in
    take_wrote digits (decimal (n + 1)) result k (omega arith) (rw counted at (wrote_held digits 0 (j + 1) (next (take j digits)) (omega arith) w))

-- what `put_row` puts
pub row_numbered : (digits : List ℕ) (n k answer spent : ℕ) → 21 ≤ length digits → take k digits ≡ decimal n
    → numbered digits k answer spent ≡ row n answer spent
unfolding row
row_numbered digits n k answer spent h e =
    let few = shown_few digits n k h e in
    numbered_there digits k answer spent few (omega arith) ∙ ap (λ (l : List ℕ). row_of l answer spent) e
