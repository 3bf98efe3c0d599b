-- The seniority of an image's roles: a partial order, of which the read roles and the write roles are two parts. Assumes
-- nothing.
use Prim.Native.Nat.{ℕ, ◌-◌, ◌≤◌, ◌<◌}
use mathlib.Core.Path.{◌≡◌, sym, ◌∙◌}
use mathlib.Core.Bool.{true, false}
use native.Mathlib.Omega.{arith}
use lib.Dec.{ltb, leb}
use borrow.Author.Tests.{ltb-true, ltb-false, leb-true, lt-ltb, le-ltb, le-leb, lt-leb}
use Rattle.bits.specs.Words.{◌and◌}
use Rattle.bits.proofs.Truth.{by_truth, and_intro, and_left, and_right, true_and, false_and, if_true, if_false}
use Rattle.machine.proofs.Order.{dominates, dominates_refl, dominates_trans, dominates_antisym}
use Rattle.image.specs.Image.{above}

-- role r is above role q: both read, or both write
pub data Over (r q : ℕ) : Type 0 where
  reads : r < 32 → q < 32 → dominates r q ≡ true → Over r q
  writes : 32 ≤ r → 32 ≤ q → dominates (q - 32) (r - 32) ≡ true → Over r q

pub over : (r q : ℕ) → above r q ≡ true → Over r q
unfolding above
over r q h =
    by_truth (ltb r 32)
    (λ b. let e : ltb q 32 and dominates r q ≡ true = sym (if_true _ _ b) ∙ h in reads (ltb-true r 32 b) (ltb-true q 32 (and_left _ _ e)) (and_right _ _ e))
    (λ b.
    let e : leb 32 q and dominates (q - 32) (r - 32) ≡ true = sym (if_false _ _ b) ∙ h in
    writes (ltb-false r 32 b) (leb-true 32 q (and_left _ _ e)) (and_right _ _ e))

pub over_above : {r q : ℕ} → Over r q → above r q ≡ true
unfolding above
over_above {r} {q} (reads l k h) = if_true _ _ (lt-ltb r 32 l) ∙ and_intro (lt-ltb q 32 k) h
over_above {r} {q} (writes l k h) = if_false _ _ (le-ltb r 32 l) ∙ and_intro (le-leb 32 q k) h

pub over_refl : (r : ℕ) → Over r r
over_refl r =
    by_truth (ltb r 32)
    (λ b. reads (ltb-true r 32 b) (ltb-true r 32 b) (dominates_refl r))
    (λ b. writes (ltb-false r 32 b) (ltb-false r 32 b) (dominates_refl (r - 32)))

pub over_trans : {r q p : ℕ} → Over r q → Over q p → Over r p
over_trans {r} {q} {p} (reads l k h) (reads l' k' h') = reads l k' (dominates_trans r q p h h')
over_trans {r} {q} {p} (reads l k h) (writes l' k' h') = absurd (omega arith)
over_trans {r} {q} {p} (writes l k h) (reads l' k' h') = absurd (omega arith)
over_trans {r} {q} {p} (writes l k h) (writes l' k' h') = writes l k' (dominates_trans (p - 32) (q - 32) (r - 32) h' h)

pub over_antisym : {r q : ℕ} → Over r q → Over q r → r ≡ q
over_antisym {r} {q} (reads l k h) (reads l' k' h') = dominates_antisym r q h h'
over_antisym {r} {q} (reads l k h) (writes l' k' h') = absurd (omega arith)
over_antisym {r} {q} (writes l k h) (reads l' k' h') = absurd (omega arith)
over_antisym {r} {q} (writes l k h) (writes l' k' h') =
    let e : r - 32 ≡ q - 32 = dominates_antisym (r - 32) (q - 32) h' h in omega arith

-- ---- as the code finds it

module _ {r q : ℕ} where
  module _ (h : r < 32) where
    pub above_reads : q < 32 → above r q ≡ dominates r q
    unfolding above
    above_reads k = if_true _ _ (lt-ltb r 32 h) ∙ true_and _ (lt-ltb q 32 k)

    pub above_no_write : 32 ≤ q → above r q ≡ false
    unfolding above
    above_no_write k = if_true _ _ (lt-ltb r 32 h) ∙ false_and _ (le-ltb q 32 k)

  module _ (h : 32 ≤ r) where
    pub above_writes : 32 ≤ q → above r q ≡ dominates (q - 32) (r - 32)
    unfolding above
    above_writes k = if_false _ _ (le-ltb r 32 h) ∙ true_and _ (le-leb 32 q k)

    pub above_no_read : q < 32 → above r q ≡ false
    unfolding above
    above_no_read k = if_false _ _ (le-ltb r 32 h) ∙ false_and _ (lt-leb 32 q k)
