-- Laws of every and of some number below n. Assumes nothing.
use Prim.Native.Nat.{ℕ, zero, suc, ◌+◌, ◌≤◌, ◌<◌, zero-le}
use mathlib.Core.Path.{◌≡◌, refl, sym, ap, ap₂, subst, ◌∙◌}
use mathlib.Core.Bool.{Bool, true, false, not}
use mathlib.Core.Logic.{⊎_elim}
use native.Mathlib.Nat.{le_of_suc-le-suc, not-suc-le-zero, eq-or-lt_of_le, lt_of_lt_of_le}
use native.Mathlib.Numerals.{add-one}
use native.Mathlib.Omega.{arith}
use lib.Dec.{T, leb, lit≤}
use Rattle.bits.specs.Words.{◌and◌, all}
use Rattle.bits.specs.Sets.{any, least}
use Rattle.bits.proofs.Truth.{clash, by_truth, is_false, and_intro, and_left, and_right, or_left, or_right, or_elim, if_true, if_false}

-- a number below n of which f holds
pub record Any (n : ℕ) (f : ℕ → Bool) : Type 0 where
  pub at : ℕ
  pub below : at < n
  pub holds : f at ≡ true

-- a number below n + 1 is n or below n
pub below_suc : {A : Type 0} {i n : ℕ} → i < suc n → (i ≡ n → A) → (i < n → A) → A
below_suc h f g = ⊎_elim f g (eq-or-lt_of_le (le_of_suc-le-suc h))

module _ (f : ℕ → Bool) where
  pub all_elim : (n : ℕ) → all n f ≡ true → (i : ℕ) → i < n → f i ≡ true
  unfolding all
  all_elim zero e i h = absurd (not-suc-le-zero h)
  all_elim (suc n) e i h =
      below_suc h (λ q. ap f q ∙ and_right (all n f) (f n) e) (λ l. all_elim n (and_left (all n f) (f n) e) i l)

  pub all_intro : (n : ℕ) → ((i : ℕ) → i < n → f i ≡ true) → all n f ≡ true
  unfolding all
  all_intro zero k = refl
  all_intro (suc n) k = and_intro (all_intro n (λ i h. k i (omega arith))) (k n (omega arith))

  -- one that fails
  pub all_fails : (n i : ℕ) → i < n → f i ≡ false → all n f ≡ false
  all_fails n i h e = is_false (λ p. clash (all_elim n p i h) e)

  -- where it does not hold of all, there is one of which it does not hold
  pub all_counter : (n : ℕ) → all n f ≡ false → Any n (λ i. not (f i))
  unfolding all
  all_counter zero e = clash refl e
  all_counter (suc n) e =
      by_truth (f n)
      (λ p.
      let q : all n f ≡ false = is_false (λ k. clash (and_intro k p) e) in
      let a = all_counter n q in
      let b = a.below in
      record { at = a.at; below = omega arith; holds = a.holds })
      (λ p. record { at = n; below = omega arith; holds = ap not p })

  -- as a loop counts: none passed, one more, all passed
  pub all_none : all 0 f ≡ true
  unfolding all
  all_none = refl

  pub all_more : (n : ℕ) → all n f ≡ true → f n ≡ true → all (n + 1) f ≡ true
  unfolding all
  all_more n p q = rw add-one (and_intro p q)

  pub any_elim : (n : ℕ) → any n f ≡ true → Any n f
  unfolding any
  any_elim zero e = clash e refl
  any_elim (suc n) e =
      or_elim (any n f) (f n) e
      (λ p. let a = any_elim n p in let b = a.below in record { at = a.at; below = omega arith; holds = a.holds })
      (λ q. record { at = n; below = omega arith; holds = q })

  pub any_intro : (n i : ℕ) → i < n → f i ≡ true → any n f ≡ true
  unfolding any
  any_intro zero i h e = absurd (not-suc-le-zero h)
  any_intro (suc n) i h e =
      below_suc h (λ q. or_right (any n f) (sym (ap f q) ∙ e)) (λ l. or_left (f n) (any_intro n i l e))

  -- the least is the one below which there is none
  pub least_is : (n i : ℕ) → i < n → f i ≡ true → ((j : ℕ) → j < i → f j ≡ false) → least n f ≡ i
  unfolding least
  least_is zero i h e k = absurd (not-suc-le-zero h)
  least_is (suc n) i h e k =
      below_suc h
      (λ q.
      let none : any n f ≡ false =
      is_false (λ p. let a = any_elim n p in let b = a.below in clash a.holds (k a.at (omega arith))) in
      if_false _ _ none ∙ if_true _ _ (sym (ap f q) ∙ e) ∙ sym q)
      (λ l. if_true _ _ (any_intro n i l e) ∙ least_is n i l e k)

module _ {f g : ℕ → Bool} where
  pub all_cong : (n : ℕ) → ((i : ℕ) → i < n → f i ≡ g i) → all n f ≡ all n g
  unfolding all
  all_cong zero k = refl
  all_cong (suc n) k = ap₂ (λ (a b : Bool). a and b) (all_cong n (λ i h. k i (omega arith))) (k n (omega arith))

-- below m, and so below n where that is no less
pub widen : {i m : ℕ} (n : ℕ) → i < m → T (leb m n) → i < n
widen n h l = lt_of_lt_of_le h (lit≤ l)

-- ---- a loop that counts to n: P holds of every number passed

pub record Passed (P : ℕ → Type 0) (n i : ℕ) : Type 0 where
  pub within : i ≤ n
  pub passed : (k : ℕ) → k < i → P k

module _ {P : ℕ → Type 0} where
  pub passed_none : {n : ℕ} → Passed P n 0
  passed_none = record { within = zero-le; passed = λ k h. absurd (not-suc-le-zero h) }

  pub passed_more : {n i : ℕ} → Passed P n i → i < n → P i → Passed P n (i + 1)
  passed_more {n} {i} a h p = record {
    within = omega arith;
    passed = λ k l. below_suc (rw add-one at l) (λ e. subst P (sym e) p) (a.passed k);
  }

  pub passed_all : {n i : ℕ} → Passed P n i → n ≤ i → (k : ℕ) → k < n → P k
  passed_all a h k l = a.passed k (omega arith)
