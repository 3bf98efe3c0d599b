-- Laws of words by their members: `has` of each operation on words, and words that have the same members. Assumes nothing.
use Prim.Native.Nat.{ℕ, zero, suc, ◌+◌, ◌-◌, ◌*◌, ◌/◌, ◌%◌, ◌^◌, ◌≤◌, ◌<◌, min, max}
use mathlib.Core.Path.{◌≡◌, refl, sym, ap, ap₂, ◌∙◌}
use mathlib.Core.Bool.{Bool, true, false, not}
use native.Mathlib.Nat.{le_of_suc-le-suc, not-suc-le-zero, mod-lt, mod-one, mul-add-mod_self_right, mod-eq_of_lt, zero-div, pow-suc, lt_of_le_of_lt, lt_of_lt_of_le, div-eq_of_lt}
use native.Mathlib.Numerals.{one-add, add-one}
use native.Mathlib.Omega.{arith}
use lib.Dec.{eqb}
use lib.Bits.{bit_and, bit_or, and_shr, or_shr, and_step, or_step, and_le_l, or_lt, or_shifted_r}
use lib.Pow.{pow_pos, pow_mono, mod-mod-pow, field, low, high, mod-pow-add, pow-lt, shl_exact}
use borrow.Author.Tests.{eq-eqb, ne_eqb, eqb-true}
use Rattle.bits.specs.Words.{◌and◌, ◌or◌, has, bit, pack, ◌with◌}
use Rattle.bits.specs.Sets.{◌without◌, join}
use Rattle.bits.proofs.Truth.{clash, by_truth, and_intro, and_left, and_right, or_left, or_right, or_elim, or_comm, and_comm, false_or, true_and, false_and, not_intro}
use Rattle.bits.proofs.Below.{below_suc}

-- ---- one digit

digit : {A : Type 0} (x : ℕ) → x < 2 → (x ≡ 0 → A) → (x ≡ 1 → A) → A
digit zero h f g = f refl
digit (suc zero) h f g = g refl
digit (suc (suc x)) h f g = absurd (not-suc-le-zero (le_of_suc-le-suc (le_of_suc-le-suc h)))

two : 0 < 2
two = omega arith

-- an operation on two digits is that on their truth values, where it is so at 0 and 1
digits : (m : ℕ → ℕ → ℕ) (b : Bool → Bool → Bool)
    → eqb (m 0 0 % 2) 1 ≡ b false false → eqb (m 0 1 % 2) 1 ≡ b false true
    → eqb (m 1 0 % 2) 1 ≡ b true false → eqb (m 1 1 % 2) 1 ≡ b true true
    → (x y : ℕ) → x < 2 → y < 2 → eqb (m x y % 2) 1 ≡ b (eqb x 1) (eqb y 1)
digits m b e00 e01 e10 e11 x y hx hy =
    digit x hx
    (λ p. digit y hy (λ q. rw (p, q) e00) (λ q. rw (p, q) e01))
    (λ p. digit y hy (λ q. rw (p, q) e10) (λ q. rw (p, q) e11))

bit_lt : (b : Bool) → bit b < 2
unfolding bit
bit_lt true = omega arith
bit_lt false = omega arith

bit_truth : (b : Bool) → eqb (bit b % 2) 1 ≡ b
unfolding bit
bit_truth true = refl
bit_truth false = refl

digit_bit : (x : ℕ) → x < 2 → bit (eqb x 1) ≡ x
unfolding bit
digit_bit x h = digit x h (λ p. rw p) (λ p. rw p)

-- ---- members

pub has_and : (a b i : ℕ) → has (bit_and a b) i ≡ has a i and has b i
unfolding has ◌and◌
has_and a b i =
    ap (λ (x : ℕ). eqb (x % 2) 1) (and_shr a b i ∙ and_step (a / 2 ^ i) (b / 2 ^ i))
    ∙ ap (λ (x : ℕ). eqb x 1) (mul-add-mod_self_right _ 2 (min (a / 2 ^ i % 2) (b / 2 ^ i % 2)))
    ∙ digits min ◌and◌ refl refl refl refl (a / 2 ^ i % 2) (b / 2 ^ i % 2) (mod-lt (a / 2 ^ i) two) (mod-lt (b / 2 ^ i) two)

pub has_or : (a b i : ℕ) → has (bit_or a b) i ≡ has a i or has b i
unfolding has ◌or◌
has_or a b i =
    ap (λ (x : ℕ). eqb (x % 2) 1) (or_shr a b i ∙ or_step (a / 2 ^ i) (b / 2 ^ i))
    ∙ ap (λ (x : ℕ). eqb x 1) (mul-add-mod_self_right _ 2 (max (a / 2 ^ i % 2) (b / 2 ^ i % 2)))
    ∙ digits max ◌or◌ refl refl refl refl (a / 2 ^ i % 2) (b / 2 ^ i % 2) (mod-lt (a / 2 ^ i) two) (mod-lt (b / 2 ^ i) two)

pub has_zero : (i : ℕ) → has 0 i ≡ false
unfolding has
has_zero i = ap (λ (x : ℕ). eqb (x % 2) 1) (zero-div (2 ^ i))

-- no number past 63 is a member of a word
pub has_past : (w i : ℕ) → w < 2 ^ 64 → 64 ≤ i → has w i ≡ false
unfolding has
has_past w i h l = ap (λ (x : ℕ). eqb (x % 2) 1) (div-eq_of_lt (lt_of_lt_of_le h (pow_mono l)))

-- the members below n are those of the remainder
has_mod : (w i n : ℕ) → i < n → has (w % 2 ^ n) i ≡ has w i
unfolding has
has_mod w i n h =
    let e : (n - (1 + i)) + (1 + i) ≡ n = omega arith in
    let m : w % 2 ^ n % 2 ^ (1 + i) ≡ w % 2 ^ (1 + i) = rw e at (mod-mod-pow w (n - (1 + i)) (1 + i)) in
    ap (λ (x : ℕ). eqb x 1) (sym (field (w % 2 ^ n) 1 i) ∙ ap (λ (x : ℕ). x / 2 ^ i) m ∙ field w 1 i)

-- ---- the word of a predicate

module _ (f : ℕ → Bool) where
  pub pack_lt : (n : ℕ) → pack n f < 2 ^ n
  unfolding pack
  pack_lt zero = omega arith
  pack_lt (suc n) =
      let b = bit_lt (f n) in
      let h = pack_lt n in
      rw pow-suc (digit (bit (f n)) b (λ e. rw e (omega arith)) (λ e. rw e (omega arith)))

  pub has_pack : (n i : ℕ) → i < n → has (pack n f) i ≡ f i
  unfolding pack
  has_pack zero i h = absurd (not-suc-le-zero h)
  has_pack (suc n) i h =
      below_suc h
      (λ q. rw q (unfold has in
      ap (λ (x : ℕ). eqb (x % 2) 1) (high (bit (f n)) n (pack_lt n)) ∙ bit_truth (f n)))
      (λ l. sym (has_mod (bit (f n) * 2 ^ n + pack n f) i n l)
      ∙ ap (λ (x : ℕ). has x i) (low (bit (f n)) n (pack_lt n))
      ∙ has_pack n i l)

-- the largest word has all numbers below 64
all_members : pack 64 (λ i. true) ≡ 18446744073709551615
unfolding pack bit
all_members = refl

pub has_all : (i : ℕ) → i < 64 → has 18446744073709551615 i ≡ true
has_all i h = sym (ap (λ (w : ℕ). has w i) all_members) ∙ has_pack _ 64 i h

-- its lowest place apart
pub pack_low : (n : ℕ) (f : ℕ → Bool) → pack (suc n) f ≡ bit (f 0) + 2 * pack n (λ i. f (suc i))
unfolding pack
pack_low zero f = omega arith
pack_low (suc n) f =
    let e = pack_low n f in
    rw pow-suc (digit (bit (f (suc n))) (bit_lt (f (suc n))) (λ b. rw b (omega arith)) (λ b. rw b (omega arith)))

pub pack_cong : {f g : ℕ → Bool} (n : ℕ) → ((i : ℕ) → i < n → f i ≡ g i) → pack n f ≡ pack n g
unfolding pack
pack_cong zero k = refl
pack_cong (suc n) k =
    ap₂ (λ (a : Bool) (m : ℕ). bit a * 2 ^ n + m) (k n (omega arith)) (pack_cong n (λ i h. k i (omega arith)))

pack_has : (w n : ℕ) → pack n (has w) ≡ w % 2 ^ n
unfolding pack has
pack_has w zero = sym (mod-one w)
pack_has w (suc n) =
    ap₂ (λ (x m : ℕ). x * 2 ^ n + m) (digit_bit (w / 2 ^ n % 2) (mod-lt (w / 2 ^ n) two)) (pack_has w n)
    ∙ sym (mod-pow-add w 1 n)
    ∙ ap (λ (k : ℕ). w % 2 ^ k) (one-add n)

-- a number below 2 ^ n is the word of its members
pub pack_self : (n w : ℕ) → w < 2 ^ n → pack n (has w) ≡ w
pack_self n w h = pack_has w n ∙ mod-eq_of_lt h

-- the word whose members are those of which f holds
pub pack_is : (n w : ℕ) (f : ℕ → Bool) → w < 2 ^ n → ((i : ℕ) → i < n → has w i ≡ f i) → w ≡ pack n f
pack_is n w f h k = sym (pack_self n w h) ∙ pack_cong n k

-- two words that have the same members
pub same_members : (a b : ℕ) → a < 2 ^ 64 → b < 2 ^ 64 → ((i : ℕ) → i < 64 → has a i ≡ has b i) → a ≡ b
same_members a b ha hb k = pack_is 64 a (has b) ha k ∙ pack_self 64 b hb

pub pack_none : {f : ℕ → Bool} (n : ℕ) → ((i : ℕ) → i < n → f i ≡ false) → pack n f ≡ 0
unfolding pack bit
pack_none zero k = refl
pack_none (suc n) k = rw (k n (omega arith), pack_none n (λ i h. k i (omega arith))) (omega arith)

-- a word without members is 0
pub none_in : (w : ℕ) → w < 2 ^ 64 → ((i : ℕ) → i < 64 → has w i ≡ false) → w ≡ 0
none_in w h k = pack_is 64 w (has w) h (λ i l. refl) ∙ pack_none 64 k

-- ---- one member

pack_one : (i n : ℕ) → i < n → pack n (λ j. eqb j i) ≡ 2 ^ i
unfolding pack bit
pack_one i zero h = absurd (not-suc-le-zero h)
pack_one i (suc n) h =
    below_suc h
    (λ q. rw (eq-eqb n i (sym q), pack_none {f = λ j. eqb j i} n (λ j l. ne_eqb j i (λ e. omega arith)), q) (omega arith))
    (λ l. rw (ne_eqb n i (λ e. omega arith), pack_one i n l) (omega arith))

pub has_pow : (i j : ℕ) → i < 64 → j < 64 → has (2 ^ i) j ≡ eqb j i
has_pow i j hi hj = rw (← pack_one i 64 hi) (has_pack (λ k. eqb k i) 64 j hj)

-- `1 << i` of a word
pub shifted : (i : ℕ) → i < 64 → 1 * 2 ^ i % 2 ^ 64 ≡ 2 ^ i
shifted i h = shl_exact 1 i 64 (omega arith) (omega arith) ∙ omega arith

-- ---- the complement

pack_rest : (f : ℕ → Bool) (n : ℕ) → pack n f + pack n (λ i. not (f i)) ≡ 2 ^ n - 1
unfolding pack bit
pack_rest f zero = refl
pack_rest f (suc n) =
    let p = pow_pos n in
    let h = pack_rest f n in
    rw pow-suc (by_truth (f n) (λ e. rw e (omega arith)) (λ e. rw e (omega arith)))

pub has_not : (a i : ℕ) → a < 2 ^ 64 → i < 64 → has (2 ^ 64 - 1 - a) i ≡ not (has a i)
has_not a i h l =
    let e : 2 ^ 64 - 1 - a ≡ pack 64 (λ j. not (has a j)) = omega (arith, pack_rest (has a) 64, pack_self 64 a h) in
    rw e (has_pack (λ j. not (has a j)) 64 i l)

-- ---- with, without, join

pub has_with : (w i j : ℕ) → j < 64 → has (w with i) j ≡ eqb j i or has w j
unfolding ◌with◌
has_with w i j h = has_pack (λ k. eqb k i or has w k) 64 j h

pub has_without : (w i j : ℕ) → j < 64 → has (w without i) j ≡ not (eqb j i) and has w j
unfolding ◌without◌
has_without w i j h = has_pack (λ k. not (eqb k i) and has w k) 64 j h

pub has_join : (a b j : ℕ) → j < 64 → has (join a b) j ≡ has a j or has b j
unfolding join
has_join a b j h = has_pack (λ k. has a k or has b k) 64 j h

pub with_lt : (w i : ℕ) → w with i < 2 ^ 64
unfolding ◌with◌
with_lt w i = pack_lt _ 64

pub without_lt : (w i : ℕ) → w without i < 2 ^ 64
unfolding ◌without◌
without_lt w i = pack_lt _ 64

pub join_lt : (a b : ℕ) → join a b < 2 ^ 64
unfolding join
join_lt a b = pack_lt _ 64

-- a member of w with i is i or was there; it has i, and what was there
pub with_elim : {A : Type 0} (w i j : ℕ) → j < 64 → has (w with i) j ≡ true → (j ≡ i → A) → (has w j ≡ true → A) → A
with_elim w i j h e f g = or_elim (eqb j i) (has w j) (sym (has_with w i j h) ∙ e) (λ p. f (eqb-true j i p)) g

pub with_new : (w i : ℕ) → i < 64 → has (w with i) i ≡ true
with_new w i h = has_with w i i h ∙ or_left _ (eq-eqb i i refl)

pub with_old : (w i j : ℕ) → j < 64 → has w j ≡ true → has (w with i) j ≡ true
with_old w i j h e = has_with w i j h ∙ or_right _ e

-- a member of w without i was there and is not i
pub without_old : (w i j : ℕ) → j < 64 → has (w without i) j ≡ true → has w j ≡ true
without_old w i j h e = and_right (not (eqb j i)) (has w j) (sym (has_without w i j h) ∙ e)

pub without_other : (w i j : ℕ) → j < 64 → has (w without i) j ≡ true → j ≡ i → ⊥
without_other w i j h e q =
    clash (and_left (not (eqb j i)) (has w j) (sym (has_without w i j h) ∙ e)) (ap not (eq-eqb j i q))

pub without_keeps : (w i j : ℕ) → j < 64 → (j ≡ i → ⊥) → has w j ≡ true → has (w without i) j ≡ true
without_keeps w i j h n e = has_without w i j h ∙ and_intro (ap not (ne_eqb j i n)) e

-- a member that is there added, and one that is absent removed: the same members
pub with_same : (w i : ℕ) → has w i ≡ true → (j : ℕ) → j < 64 → has (w with i) j ≡ has w j
with_same w i e j h = has_with w i j h ∙ by_truth (eqb j i) (λ b. or_left _ b ∙ sym (ap (has w) (eqb-true j i b) ∙ e)) (λ b. false_or _ b)

pub without_same : (w i : ℕ) → has w i ≡ false → (j : ℕ) → j < 64 → has (w without i) j ≡ has w j
without_same w i e j h =
    has_without w i j h ∙ by_truth (eqb j i) (λ b. false_and _ (ap not b) ∙ sym (ap (has w) (eqb-true j i b) ∙ e)) (λ b. true_and _ (not_intro b))

-- adding what is there, and removing what is not, changes nothing
pub with_there : (w i : ℕ) → w < 2 ^ 64 → has w i ≡ true → w with i ≡ w
with_there w i h e = same_members (w with i) w (with_lt w i) h (with_same w i e)

pub without_absent : (w i : ℕ) → w < 2 ^ 64 → has w i ≡ false → w without i ≡ w
without_absent w i h e = same_members (w without i) w (without_lt w i) h (without_same w i e)

pub without_with : (w i : ℕ) → (w without i) with i ≡ w with i
unfolding ◌with◌
without_with w i =
    pack_cong 64 (λ j h.
    by_truth (eqb j i) (λ e. or_left _ e ∙ sym (or_left _ e))
    (λ e. ap (λ (b : Bool). eqb j i or b) (has_without w i j h ∙ true_and _ (not_intro e))))

pub without_none : (i : ℕ) → 0 without i ≡ 0
without_none i = without_absent 0 i (pow_pos 64) (has_zero i)

-- ---- as the code works them out

pub with_is : (w i : ℕ) → w < 2 ^ 64 → i < 64 → bit_or w (2 ^ i) ≡ w with i
with_is w i h l =
    same_members (bit_or w (2 ^ i)) (w with i) (or_lt 64 w (2 ^ i) h (pow-lt l)) (with_lt w i)
    (λ j k. has_or w (2 ^ i) j
    ∙ ap (λ (b : Bool). has w j or b) (has_pow i j l k)
    ∙ or_comm (has w j) (eqb j i)
    ∙ sym (has_with w i j k))

-- the word of a predicate with one number more
module _ (f : ℕ → Bool) (n : ℕ) where
  one_more : {b : Bool} → f n ≡ b → pack (n + 1) f ≡ bit b * 2 ^ n + pack n f
  unfolding pack
  one_more p = ap (λ (k : ℕ). pack k f) (add-one n) ∙ ap (λ (c : Bool). bit c * 2 ^ n + pack n f) p

  pub pack_with : n < 64 → f n ≡ true → pack n f with n ≡ pack (n + 1) f
  unfolding bit
  pack_with h p =
      let l : n ≤ 64 = omega arith in
      let e : 2 ^ n ≡ 1 * 2 ^ n = omega arith in
      sym (with_is (pack n f) n (lt_of_lt_of_le (pack_lt f n) (pow_mono l)) h)
      ∙ ap (bit_or (pack n f)) e
      ∙ or_shifted_r 1 n (pack n f) (pack_lt f n)
      ∙ sym (one_more p)

  pub pack_without : f n ≡ false → pack n f ≡ pack (n + 1) f
  unfolding bit
  pack_without p = let e : pack n f ≡ 0 * 2 ^ n + pack n f = omega arith in e ∙ sym (one_more p)

pub without_is : (w i : ℕ) → w < 2 ^ 64 → i < 64 → bit_and w (2 ^ 64 - 1 - 2 ^ i) ≡ w without i
without_is w i h l =
    same_members (bit_and w (2 ^ 64 - 1 - 2 ^ i)) (w without i) (lt_of_le_of_lt (and_le_l w (2 ^ 64 - 1 - 2 ^ i)) h) (without_lt w i)
    (λ j k. has_and w (2 ^ 64 - 1 - 2 ^ i) j
    ∙ ap (λ (b : Bool). has w j and b) (has_not (2 ^ i) j (pow-lt l) k ∙ ap not (has_pow i j l k))
    ∙ and_comm (has w j) (not (eqb j i))
    ∙ sym (has_without w i j k))

pub join_is : (a b : ℕ) → a < 2 ^ 64 → b < 2 ^ 64 → bit_or a b ≡ join a b
join_is a b ha hb =
    same_members (bit_or a b) (join a b) (or_lt 64 a b ha hb) (join_lt a b) (λ j k. has_or a b j ∙ sym (has_join a b j k))

-- a number past the last member
pub with_past : (w i : ℕ) → w < 2 ^ 64 → 64 ≤ i → w with i ≡ w
with_past w i h l =
    same_members (w with i) w (with_lt w i) h
    (λ j k. has_with w i j k ∙ false_or (has w j) (ne_eqb j i (λ e. omega arith)))

pub without_past : (w i : ℕ) → w < 2 ^ 64 → 64 ≤ i → w without i ≡ w
without_past w i h l = without_absent w i h (has_past w i h l)
