-- Laws of numbers that are read a digit at a time and refused as soon as they pass 2^64, in any base. Assumes nothing.
use Prim.Native.Nat.{ℕ, ◌+◌, ◌-◌, ◌*◌, ◌^◌, ◌<◌, ◌≤◌}
use mathlib.Core.Path.{◌≡◌, refl, sym, ◌∙◌}
use mathlib.Core.Bool.{Bool, true, false}
use mathlib.Core.List.{List, [], ◌∷◌}
use Rattle.std.specs.Prelude.{Option, Some, None}
use native.Mathlib.Omega.{arith}
use native.Mathlib.Nat.{le_trans, lt_of_le_of_lt, zero-add}
use lib.Dec.{eqb, ltb}
use borrow.Author.Tests.{eqb-true, eqb-false, ltb-true, lt-ltb}
use Rattle.bits.specs.Words.{◌and◌, when◌then◌else◌}
use Rattle.bits.proofs.Truth.{clash, by_truth, is_false, and_intro, and_left, and_right, true_and, false_and, and_false, if_true, if_false}
use Rattle.reader.specs.Bytes.{every, empty}
use Rattle.reader.specs.Line.{digit, worth, plain, number}
use Rattle.reader.proofs.Stepping.{digit_least, digit_most}

-- ---- any base

module _ {A : Type 0} (good : ℕ → Bool) (base : ℕ) (one : ℕ → ℕ) (done : ℕ → A) (fail : A) where
  -- a digit at a time, refused as soon as the number passes 2^64
  unfoldable pub along : ℕ → List ℕ → A
  along v [] = done v
  along v (b ∷ l) = when◌then◌else◌ (good b and ltb (v * base + one b) (2 ^ 64)) (along (v * base + one b) l) fail

-- what digits are worth behind v
unfoldable pub total : ℕ → (ℕ → ℕ) → ℕ → List ℕ → ℕ
total base one v [] = v
total base one v (b ∷ l) = total base one (v * base + one b) l

module _ {A : Type 0} (good : ℕ → Bool) (base : ℕ) (one : ℕ → ℕ) (grows : (v b : ℕ) → v ≤ v * base + one b) (done : ℕ → A) (fail : A) where
  pub total_grows : (v : ℕ) (l : List ℕ) → v ≤ total base one v l
  unfolding total
  total_grows v [] = omega arith
  total_grows v (b ∷ l) = le_trans (grows v b) (total_grows (v * base + one b) l)

  abbrev judged : ℕ → List ℕ → A
  judged v l = when◌then◌else◌ (every good l and ltb (total base one v l) (2 ^ 64)) (done (total base one v l)) fail

  -- it comes to the same to look at the whole number
  pub along_total : (v : ℕ) (l : List ℕ) → v < 2 ^ 64 → along good base one done fail v l ≡ judged v l
  unfolding along total every
  along_total v [] h = sym (if_true _ _ (and_intro refl (lt-ltb v (2 ^ 64) h)))
  along_total v (b ∷ l) h =
      let y = v * base + one b in
      by_truth (good b and ltb y (2 ^ 64))
      (λ e. if_true _ _ e ∙ rw (true_and (every good l) (and_left _ _ e)) (along_total y l (ltb-true _ _ (and_right (good b) _ e))))
      (λ e. if_false _ _ e ∙ sym (if_false _ _ (is_false (λ k.
      let small = ltb-true (total base one y l) (2 ^ 64) (and_right (good b and every good l) _ k) in
      clash (and_intro (and_left _ _ (and_left _ _ k)) (lt-ltb y (2 ^ 64) (lt_of_le_of_lt (total_grows y l) small))) e))))

-- ---- fields

pub worth_total : (v : ℕ) (l : List ℕ) → total 10 (λ b. b - 48) v l ≡ worth v l
unfolding total worth
worth_total v [] = refl
worth_total v (b ∷ l) = worth_total (v * 10 + (b - 48)) l

-- what a field is worth that goes on behind digits that are worth v: nothing may stand behind a 0
unfoldable pub digits_from : ℕ → List ℕ → Option ℕ
digits_from v [] = Some v
digits_from v (b ∷ p) = when◌then◌else◌ (ltb 0 v and (digit b and ltb (v * 10 + (b - 48)) (2 ^ 64))) (digits_from (v * 10 + (b - 48)) p) None

-- behind another digit this is a digit at a time
digits_along : (v : ℕ) (p : List ℕ) → 0 < v → digits_from v p ≡ along digit 10 (λ b. b - 48) Some None v p
unfolding digits_from along
digits_along v [] h = refl
digits_along v (b ∷ p) h = rw (true_and _ (lt-ltb 0 v h), digits_along (v * 10 + (b - 48)) p (omega arith))

pub number_none : number [] ≡ None
unfolding number plain
number_none = if_false _ _ (false_and _ refl)

number_nought : (p : List ℕ) → number (48 ∷ p) ≡ digits_from 0 p
unfolding number plain digits_from empty worth
number_nought [] = if_true _ _ (and_intro (and_intro (and_intro refl refl) (if_true _ _ refl)) refl)
number_nought (b ∷ p) = if_false _ _ (false_and _ (and_false (digit 48) (if_true _ _ refl))) ∙ sym (if_false _ _ (false_and _ refl))

number_digits : (b : ℕ) (p : List ℕ) → eqb b 48 ≡ false → digit b ≡ true → number (b ∷ p) ≡ digits_from (b - 48) p
unfolding number plain worth
number_digits b p e f =
    let least = digit_least b f in
    let most = digit_most b f in
    let other : b ≡ 48 → ⊥ = eqb-false b 48 e in
    let whole = along_total digit 10 (λ b. b - 48) (λ v b. omega arith) Some None (b - 48) p (omega arith) in
    rw (true_and _ f, if_false _ _ e, zero-add) (sym (rw (worth_total (b - 48) p) at whole)) ∙ sym (digits_along (b - 48) p (omega arith))

-- a field a byte at a time
pub number_along : (b : ℕ) (p : List ℕ) → number (b ∷ p) ≡ (when digit b then digits_from (b - 48) p else None)
unfolding number plain
number_along b p =
    by_truth (digit b)
    (λ f. by_truth (eqb b 48) (λ e. rw (eqb-true b 48 e) (number_nought p)) (λ e. number_digits b p e f) ∙ sym (if_true _ _ f))
    (λ f. if_false _ _ (false_and _ (false_and _ f)) ∙ sym (if_false _ _ f))
