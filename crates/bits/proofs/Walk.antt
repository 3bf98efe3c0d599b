-- Going through the members of a word, lowest first: what a loop `while m != 0 { q = lowest(m); m = rest(m); .. }` needs.
-- Its invariant is an equation between the whole word and what is left of it, one record for each use; the last two records
-- are for loops that ask all numbers below a bound, from 0 up and from the last one down. Assumes nothing.
use Prim.Native.Nat.{ℕ, zero, suc, ◌+◌, ◌-◌, ◌*◌, ◌/◌, ◌%◌, ◌^◌, ◌≤◌, ◌<◌}
use mathlib.Core.Path.{◌≡◌, refl, sym, ap, ap₂, subst, ◌∙◌}
use mathlib.Core.Bool.{Bool, true, false}
use native.Mathlib.Nat.{pow-suc, mul_assoc, mod_self, mod-eq_of_lt, mod-lt, add-zero}
use native.Mathlib.Omega.{arith}
use lib.Dec.{eqb}
use lib.Count.{count_trailing_zeros, under, trailing_of_zero}
use lib.Bits.{bit_and, and_self, and_block, and_mask, or_shifted, and_shifted}
use lib.Pow.{pow_pos, pow_mono, pow-lt}
use borrow.Author.Tests.{eq-eqb, ne_eqb, eqb-true, eqb-false}
use Rattle.bits.specs.Words.{◌and◌, ◌or◌, when◌then◌else◌, has, bit, pack, ◌with◌}
use Rattle.bits.specs.Sets.{each, any, least, ◌without◌, join, lowest, rest, some, IsLowest, IsRest}
use Rattle.bits.proofs.Truth.{clash, by_truth, is_false, same_truth, and_intro, and_left, and_right, or_left, or_right, or_elim, or_false, false_or, or_assoc, true_and, false_and}
use Rattle.bits.proofs.Below.{least_is}
use Rattle.bits.proofs.Word.{has_zero, has_or, has_and, has_pow, has_join, with_lt, with_elim, with_old, with_new, join_lt, without_lt, without_old, without_other, without_keeps, without_absent, same_members, pack_is, pack_lt, pack_cong, pack_low, pack_with, pack_without}
use Rattle.bits.proofs.Membership.{each_intro, each_elim, each_none, some_intro, some_elim, some_none}

-- ---- the lowest bit of a number

-- a number whose lowest bit is t: what stands above it, and it
record Split (k w t : ℕ) : Type 0 where
  above : ℕ
  is : w ≡ above * 2 ^ suc t + 2 ^ t
  below : t < k

twice : (a p q : ℕ) → (a * p + q) * 2 ≡ a * (p * 2) + q * 2
twice a p q = omega (arith, mul_assoc a p 2)

split : (k w : ℕ) → 0 < w → w < 2 ^ k → Split k w (count_trailing_zeros k w)
unfolding count_trailing_zeros
split zero w h l = absurd (omega arith)
split (suc k) w h l = go (w % 2) refl (λ e. split k (w / 2) (omega arith) (let p = pow-suc 2 k in omega arith))
  where
    go : (r : ℕ) → w % 2 ≡ r → (w % 2 ≡ 0 → Split k (w / 2) (count_trailing_zeros k (w / 2))) → Split (suc k) w (under r (count_trailing_zeros k (w / 2)))
    go zero e ih =
        let s = ih e in
        let t = count_trailing_zeros k (w / 2) in
        let d : w ≡ w / 2 * 2 = omega arith in
        record {
          above = s.above;
          is = d ∙ ap (λ (x : ℕ). x * 2) s.is ∙ twice s.above (2 ^ suc t) (2 ^ t)
              ∙ sym (ap₂ (λ (x y : ℕ). s.above * x + y) (pow-suc 2 (suc t)) (pow-suc 2 t));
          below = let b = s.below in omega arith;
        }
    go (suc r) e ih = record { above = w / 2; is = omega arith; below = omega arith }

-- a member below which there is none is the lowest
pub lowest_least : (w i : ℕ) → i < 64 → has w i ≡ true → ((j : ℕ) → j < i → has w j ≡ false) → lowest w ≡ i
unfolding lowest
lowest_least w i h e n = least_is (has w) 64 i h e n

-- ---- a word that is not empty: its lowest member, and the rest

module _ (w : ℕ) (l : w < 2 ^ 64) (n : w ≡ 0 → ⊥) where
  abbrev zeros : ℕ
  zeros = count_trailing_zeros 64 w

  parts : Split 64 w zeros
  parts = split 64 w (omega arith) l

  abbrev high : ℕ
  high = parts.above * 2 ^ suc zeros

  low_lt : 2 ^ zeros < 2 ^ suc zeros
  low_lt = pow-lt (omega arith)

  has_parts : (j : ℕ) → j < 64 → has w j ≡ has high j or eqb j zeros
  has_parts j h =
      ap (λ (x : ℕ). has x j) (parts.is ∙ sym (or_shifted parts.above (suc zeros) (2 ^ zeros) low_lt))
      ∙ has_or high (2 ^ zeros) j
      ∙ ap (λ (b : Bool). has high j or b) (has_pow zeros j parts.below h)

  -- no number up to the lowest bit is a member of what stands above it
  not_high : (j : ℕ) → j ≤ zeros → has high j ≡ false
  not_high j k =
      is_false (λ e. clash
      (has_and high (2 ^ j) j ∙ and_intro e (has_pow j j (let b = parts.below in omega arith) (let b = parts.below in omega arith) ∙ eq-eqb j j refl))
      (ap (λ (x : ℕ). has x j) (and_shifted parts.above (suc zeros) (2 ^ j) (pow-lt (omega arith))) ∙ has_zero j))

  -- as the code finds it
  pub lowest_is : zeros ≡ lowest w
  unfolding lowest
  lowest_is =
      sym (least_is (has w) 64 zeros parts.below
      (has_parts zeros parts.below ∙ or_right _ (eq-eqb zeros zeros refl))
      (λ j k. has_parts j (let b = parts.below in omega arith)
      ∙ or_false _ (ne_eqb j zeros (λ e. omega arith)) ∙ not_high j (omega arith)))

  pub lowest_lt : lowest w < 64
  lowest_lt = rw (← lowest_is) parts.below

  pub lowest_in : has w (lowest w) ≡ true
  lowest_in =
      rw (← lowest_is) (has_parts zeros parts.below ∙ or_right _ (eq-eqb zeros zeros refl))

  high_is : high ≡ rest w
  unfolding rest
  high_is =
      same_members high (w without lowest w) (let p = parts.is in omega arith) (without_lt w (lowest w))
      (λ j h. same_truth
      (λ e. without_keeps w (lowest w) j h
      (λ q. clash e (not_high j (let z = lowest_is in omega arith)))
      (has_parts j h ∙ or_left _ e))
      (λ e. or_elim (has high j) _ (sym (has_parts j h) ∙ without_old w (lowest w) j h e) (λ p. p)
      (λ p. absurd (without_other w (lowest w) j h e (eqb-true j zeros p ∙ lowest_is)))))

  -- as the code takes the lowest member off
  pub rest_is : bit_and w (w - 1) ≡ rest w
  rest_is =
      let p = parts.is in
      let q = pow_pos zeros in
      let m : w - 1 ≡ parts.above * 2 ^ suc zeros + (2 ^ zeros - 1) = omega arith in
      ap₂ (λ (x y : ℕ). bit_and x y) p m
      ∙ and_block (suc zeros) parts.above parts.above (2 ^ zeros) (2 ^ zeros - 1) low_lt (omega (arith, low_lt))
      ∙ ap₂ (λ (x y : ℕ). x * 2 ^ suc zeros + y) (and_self parts.above) (and_mask (2 ^ zeros) zeros ∙ mod_self (2 ^ zeros))
      ∙ add-zero high
      ∙ high_is

  -- a member is the lowest or one of the rest
  pub member_cases : {A : Type 0} (i : ℕ) → i < 64 → has w i ≡ true → (i ≡ lowest w → A) → (has (rest w) i ≡ true → A) → A
  unfolding rest
  member_cases i h e f g =
      by_truth (eqb i (lowest w)) (λ p. f (eqb-true i (lowest w) p))
      (λ p. g (without_keeps w (lowest w) i h (eqb-false i (lowest w) p) e))

  pub rest_in : (i : ℕ) → i < 64 → has (rest w) i ≡ true → has w i ≡ true
  unfolding rest
  rest_in i h e = without_old w (lowest w) i h e

  module _ (f : ℕ → Bool) where
    -- the lowest member, then the rest
    pub each_take : each w f ≡ f (lowest w) and each (rest w) f
    each_take =
        same_truth
        (λ p. and_intro (each_elim w f p (lowest w) lowest_lt lowest_in)
        (each_intro (rest w) f (λ i h e. each_elim w f p i h (rest_in i h e))))
        (λ p. each_intro w f (λ i h e. member_cases i h e
        (λ q. ap f q ∙ and_left (f (lowest w)) _ p)
        (λ q. each_elim (rest w) f (and_right (f (lowest w)) _ p) i h q)))

    pub some_take : some w f ≡ f (lowest w) or some (rest w) f
    some_take =
        same_truth
        (λ p. let s = some_elim w f p in member_cases s.at s.below s.member
        (λ q. or_left _ (sym (ap f q) ∙ s.holds))
        (λ q. or_right _ (some_intro (rest w) f s.at s.below q s.holds)))
        (λ p. or_elim (f (lowest w)) _ p
        (λ k. some_intro w f (lowest w) lowest_lt lowest_in k)
        (λ k. let s = some_elim (rest w) f k in some_intro w f s.at s.below (rest_in s.at s.below s.member) s.holds))

pub lowest_none : lowest 0 ≡ 0
unfolding lowest least any has when◌then◌else◌ ◌or◌
lowest_none = refl

-- as the code finds it, in an empty word too
pub lowest_found : (w : ℕ) → w < 2 ^ 64 → IsLowest w (count_trailing_zeros 64 w % 64)
lowest_found w l = record {
  is = by_truth (eqb w 0)
      (λ p. let e = eqb-true w 0 p in rw (e, trailing_of_zero 64) (sym lowest_none))
      (λ p. let n = eqb-false w 0 p in mod-eq_of_lt (parts w l n).below ∙ lowest_is w l n);
  below = mod-lt (count_trailing_zeros 64 w) (omega arith);
}

pub rest_none : rest 0 ≡ 0
unfolding rest
rest_none = without_absent 0 (lowest 0) (pow_pos 64) (has_zero (lowest 0))

-- ---- the members of a word that is not empty, after its lowest was taken

module _ {m q m' : ℕ} (w : m < 2 ^ 64) (n : m ≡ 0 → ⊥) (e : IsLowest m q) (d : IsRest m m') where
  pub lowest_there : has m q ≡ true
  lowest_there = ap (has m) e.is ∙ lowest_in m w n

  pub lowest_gone : has m' q ≡ false
  unfolding rest
  lowest_gone = is_false (λ p. without_other m _ q e.below (sym (ap (λ (x : ℕ). has x q) d.is) ∙ p) e.is)

  pub others_left : (i : ℕ) → i < 64 → (i ≡ q → ⊥) → has m' i ≡ has m i
  unfolding rest
  others_left i h o =
      ap (λ (x : ℕ). has x i) d.is
      ∙ same_truth (rest_in m w n i h) (without_keeps m _ i h (λ z. o (z ∙ sym e.is)))

-- ---- a loop that tests the members of w: those of m are left

pub record Testing (w : ℕ) (f : ℕ → Bool) (m : ℕ) : Type 0 where
  pub word : m < 2 ^ 64
  pub left : each w f ≡ each m f

module _ {w : ℕ} {f : ℕ → Bool} where
  pub test_start : w < 2 ^ 64 → Testing w f w
  test_start h = record { word = h; left = refl }

  pub test_end : {m : ℕ} → Testing w f m → m ≡ 0 → each w f ≡ true
  test_end k e = k.left ∙ ap (λ (x : ℕ). each x f) e ∙ each_none f

  module _ {m q : ℕ} (k : Testing w f m) (n : m ≡ 0 → ⊥) (e : IsLowest m q) where
    taken : each w f ≡ f q and each (rest m) f
    taken = k.left ∙ each_take m k.word n f ∙ ap (λ (x : ℕ). f x and each (rest m) f) (sym e.is)

    pub test_step : {m' : ℕ} → IsRest m m' → f q ≡ true → Testing w f m'
    test_step d p = record {
      word = let b = k.word in let c = d.less in omega arith;
      left = taken ∙ true_and _ p ∙ ap (λ (x : ℕ). each x f) (sym d.is);
    }

    pub test_fails : f q ≡ false → each w f ≡ false
    test_fails p = taken ∙ false_and _ p

-- ---- a loop that looks for a member of w: those of m are left

pub record Seeking (w : ℕ) (f : ℕ → Bool) (m : ℕ) : Type 0 where
  pub word : m < 2 ^ 64
  pub left : some w f ≡ some m f

module _ {w : ℕ} {f : ℕ → Bool} where
  pub seek_start : w < 2 ^ 64 → Seeking w f w
  seek_start h = record { word = h; left = refl }

  pub seek_end : {m : ℕ} → Seeking w f m → m ≡ 0 → some w f ≡ false
  seek_end k e = k.left ∙ ap (λ (x : ℕ). some x f) e ∙ some_none f

  module _ {m q : ℕ} (k : Seeking w f m) (n : m ≡ 0 → ⊥) (e : IsLowest m q) where
    sought : some w f ≡ f q or some (rest m) f
    sought = k.left ∙ some_take m k.word n f ∙ ap (λ (x : ℕ). f x or some (rest m) f) (sym e.is)

    pub seek_step : {m' : ℕ} → IsRest m m' → f q ≡ false → Seeking w f m'
    seek_step d p = record {
      word = let b = k.word in let c = d.less in omega arith;
      left = sought ∙ false_or _ p ∙ ap (λ (x : ℕ). some x f) (sym d.is);
    }

    pub seek_found : f q ≡ true → some w f ≡ true
    seek_found p = sought ∙ or_left _ p

-- ---- a loop that joins the words v of the members of w: those of m are left

pub record Joining (w : ℕ) (v : ℕ → ℕ) (m acc : ℕ) : Type 0 where
  pub word : m < 2 ^ 64
  pub sum : acc < 2 ^ 64
  pub left : (i : ℕ) → i < 64 → has acc i or some m (λ r. has (v r) i) ≡ some w (λ r. has (v r) i)

module _ {w : ℕ} {v : ℕ → ℕ} where
  pub join_start : w < 2 ^ 64 → Joining w v w 0
  join_start h = record {
    word = h;
    sum = pow_pos 64;
    left = λ i l. false_or _ (has_zero i);
  }

  pub join_end : {m acc : ℕ} → Joining w v m acc → m ≡ 0 → acc ≡ pack 64 (λ i. some w (λ r. has (v r) i))
  join_end {m} {acc} k e =
      pack_is 64 acc _ k.sum (λ i l.
      sym (or_false (has acc i) (ap (λ (x : ℕ). some x (λ r. has (v r) i)) e ∙ some_none (λ r. has (v r) i))) ∙ k.left i l)

  pub join_step : {m acc m' q acc' : ℕ} → Joining w v m acc → (m ≡ 0 → ⊥) → IsLowest m q → IsRest m m'
      → acc' ≡ join acc (v q) → Joining w v m' acc'
  join_step {m} {acc} {m'} {q} {acc'} k n e d z = record {
    word = let b = k.word in let c = d.less in omega arith;
    sum = rw z (join_lt acc (v q));
    left = λ i l.
        ap₂ (λ (a : Bool) (x : ℕ). a or some x (λ r. has (v r) i)) (ap (λ (x : ℕ). has x i) z ∙ has_join acc (v q) i l) d.is
        ∙ or_assoc (has acc i) (has (v q) i) (some (rest m) (λ r. has (v r) i))
        ∙ ap (λ (x : ℕ). has acc i or (has (v x) i or some (rest m) (λ r. has (v r) i))) e.is
        ∙ sym (ap (λ (b : Bool). has acc i or b) (some_take m k.word n (λ r. has (v r) i)))
        ∙ k.left i l;
  }

-- ---- a loop that picks the members of w of which f holds: those of m are left

pub record Picking (w : ℕ) (f : ℕ → Bool) (m acc : ℕ) : Type 0 where
  pub word : m < 2 ^ 64
  pub sum : acc < 2 ^ 64
  pub left : (i : ℕ) → i < 64 → has acc i or (has m i and f i) ≡ has w i and f i

module _ {w : ℕ} {f : ℕ → Bool} where
  pub pick_start : w < 2 ^ 64 → Picking w f w 0
  pick_start h = record { word = h; sum = pow_pos 64; left = λ i l. false_or _ (has_zero i) }

  pub pick_end : {m acc : ℕ} → Picking w f m acc → m ≡ 0 → acc ≡ pack 64 (λ i. has w i and f i)
  pick_end {m} {acc} k e =
      pack_is 64 acc _ k.sum (λ i l.
      sym (or_false (has acc i) (false_and (f i) (ap (λ (x : ℕ). has x i) e ∙ has_zero i))) ∙ k.left i l)

  module _ {m q acc m' : ℕ} (k : Picking w f m acc) (n : m ≡ 0 → ⊥) (e : IsLowest m q) (d : IsRest m m') where
    smaller : m' < 2 ^ 64
    smaller = let b = k.word in let c = d.less in omega arith

    -- a member of what is left is q or one of what is left after it
    split_left : {A : Type 0} (i : ℕ) → i < 64 → has m i ≡ true → (i ≡ q → A) → (has m' i ≡ true → A) → A
    split_left i l p g h =
        member_cases m k.word n i l p (λ z. g (z ∙ sym e.is)) (λ z. h (ap (λ (x : ℕ). has x i) d.is ∙ z))

    old_left : (i : ℕ) → i < 64 → has m' i ≡ true → has m i ≡ true
    old_left i l p = rest_in m k.word n i l (sym (ap (λ (x : ℕ). has x i) d.is) ∙ p)

    q_left : has m q ≡ true
    q_left = ap (λ (x : ℕ). has m x) e.is ∙ lowest_in m k.word n

    pub pick_take : {acc' : ℕ} → f q ≡ true → acc' ≡ acc with q → Picking w f m' acc'
    pick_take {acc'} p z = record {
      word = smaller;
      sum = rw z (with_lt acc q);
      left = λ i l.
          same_truth
          (λ y. or_elim (has acc' i) _ y
          (λ a. with_elim acc q i l (sym (ap (λ (x : ℕ). has x i) z) ∙ a)
          (λ j. or_right (has acc i) (and_intro (ap (λ (x : ℕ). has m x) j ∙ q_left) (ap f j ∙ p)))
          (λ b. or_left _ b))
          (λ a. or_right (has acc i) (and_intro (old_left i l (and_left (has m' i) _ a)) (and_right (has m' i) _ a))))
          (λ y. or_elim (has acc i) _ y
          (λ a. or_left _ (ap (λ (x : ℕ). has x i) z ∙ with_old acc q i l a))
          (λ a. split_left i l (and_left (has m i) _ a)
          (λ j. or_left _ (ap₂ has z j ∙ with_new acc q e.below))
          (λ b. or_right _ (and_intro b (and_right (has m i) _ a)))))
          ∙ k.left i l;
    }

    pub pick_pass : f q ≡ false → Picking w f m' acc
    pick_pass p = record {
      word = smaller;
      sum = k.sum;
      left = λ i l.
          ap (λ (b : Bool). has acc i or b)
          (same_truth
          (λ a. and_intro (old_left i l (and_left (has m' i) _ a)) (and_right (has m' i) _ a))
          (λ a. split_left i l (and_left (has m i) _ a)
          (λ j. clash (and_right (has m i) _ a) (ap f j ∙ p))
          (λ b. and_intro b (and_right (has m i) _ a))))
          ∙ k.left i l;
    }

-- ---- a loop that packs the numbers below n of which f holds: those below i are passed

pub record Packing (f : ℕ → Bool) (n i acc : ℕ) : Type 0 where
  pub within : i ≤ n
  pub is : acc ≡ pack i f

module _ {f : ℕ → Bool} {n : ℕ} where
  pub packing_start : Packing f n 0 0
  unfolding pack
  packing_start = record { within = omega arith; is = refl }

  pub packing_end : {i acc : ℕ} → Packing f n i acc → n ≤ i → acc ≡ pack n f
  packing_end k h = let w = k.within in k.is ∙ ap (λ (j : ℕ). pack j f) (omega arith)

  module _ {i acc : ℕ} (k : Packing f n i acc) (h : i < n) where
    pub packing_take : {acc' : ℕ} → n ≤ 64 → f i ≡ true → acc' ≡ acc with i → Packing f n (i + 1) acc'
    packing_take l p z = record { within = omega arith; is = z ∙ ap (λ (x : ℕ). x with i) k.is ∙ pack_with f i (omega arith) p }

    pub packing_pass : {acc' : ℕ} → f i ≡ false → acc' ≡ acc → Packing f n (i + 1) acc'
    packing_pass p z = record { within = omega arith; is = z ∙ k.is ∙ pack_without f i p }

-- ---- a loop that packs them from the last one down: those from i on are passed, and each doubles what is packed

pub record Stacking (f : ℕ → Bool) (n i acc : ℕ) : Type 0 where
  pub within : i ≤ n
  pub is : acc ≡ pack (n - i) (λ j. f (i + j))

module _ {f : ℕ → Bool} {n : ℕ} where
  pub stack_start : Stacking f n n 0
  unfolding pack
  stack_start = record { within = omega arith; is = let e : n - n ≡ 0 = omega arith in sym (ap (λ (k : ℕ). pack k (λ j. f (n + j))) e) }

  pub stack_end : {i acc : ℕ} → Stacking f n i acc → i ≤ 0 → acc ≡ pack n f
  stack_end {i} s h =
      let e : n - i ≡ n = omega arith in
      s.is ∙ ap (λ (k : ℕ). pack k (λ j. f (i + j))) e ∙ pack_cong n (λ j l. ap f (omega arith))

  module _ {i acc : ℕ} (s : Stacking f n i acc) (h : 0 < i) where
    -- there is room for one place more
    pub stack_room : n ≤ 64 → 2 * acc + 1 < 2 ^ 64
    stack_room l =
        let w = s.within in
        let a : acc < 2 ^ (n - i) = subst (λ (x : ℕ). x < 2 ^ (n - i)) (sym s.is) (pack_lt _ (n - i)) in
        let m : suc (n - i) ≤ 64 = omega arith in
        let b : 2 ^ suc (n - i) ≤ 2 ^ 64 = pow_mono m in
        let c = pow-suc 2 (n - i) in
        omega arith

    pub stack_step : {acc' : ℕ} → acc' ≡ 2 * acc + bit (f (i - 1)) → Stacking f n (i - 1) acc'
    stack_step z = record {
      within = let w = s.within in omega arith;
      is =
          let w = s.within in
          let e = pack_low (n - i) (λ j. f (i - 1 + j)) in
          let d : pack (n - i) (λ j. f (i - 1 + suc j)) ≡ acc = pack_cong (n - i) (λ j l. ap f (omega arith)) ∙ sym s.is in
          let b : bit (f (i - 1 + 0)) ≡ bit (f (i - 1)) = ap (λ (k : ℕ). bit (f k)) (add-zero _) in
          let m : n - (i - 1) ≡ suc (n - i) = omega arith in
          z ∙ sym (ap (λ (k : ℕ). pack k (λ j. f (i - 1 + j))) m ∙ e ∙ omega arith);
    }
