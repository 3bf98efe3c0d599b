-- How labels stand, and that dominance, equal or above, is a partial order with 0 at its bottom. Assumes nothing.
use Prim.Native.Nat.{ℕ, ◌%◌, ◌≤◌, ◌<◌}
use mathlib.Core.Path.{◌≡◌, sym, ap, ap₂, subst, ◌∙◌}
use mathlib.Core.Bool.{Bool, true, false}
use native.Mathlib.Omega.{arith}
use lib.Dec.{eqb, leb}
use borrow.Author.Tests.{le-leb, lt-leb, leb-true, eq-eqb, ne_eqb, eqb-true, eqb-false}
use Rattle.bits.specs.Words.{◌and◌, subset}
use Rattle.bits.proofs.Truth.{clash, by_truth, is_false, if_true, if_false, and_intro, and_left, and_right, true_and, false_and, same_truth}
use Rattle.bits.proofs.Word.{has_zero, same_members}
use Rattle.bits.proofs.Membership.{subset_intro, subset_elim}
use Rattle.machine.specs.declared.Standing.TheVariants.{Equal, Above, Below, Apart}
use Rattle.machine.specs.Label.{class, brands, stands, equal_or_above}

-- a's class is at least b's and a's set holds all of b's, as `stands` asks it
abbrev pub over : ℕ → ℕ → Bool
over a b = leb (class b) (class a) and subset (brands b) (brands a)

-- a dominates b
abbrev pub dominates : ℕ → ℕ → Bool
dominates a b = equal_or_above (stands a b)

-- each over the other: their classes are the same, and their sets
over_antisym : (a b : ℕ) → over a b ≡ true → over b a ≡ true → a ≡ b
unfolding class brands
over_antisym a b h k =
    let p = leb-true (class b) (class a) (and_left _ _ h) in
    let q = leb-true (class a) (class b) (and_left _ _ k) in
    let mine = and_right (leb (class b) (class a)) _ h in
    let theirs = and_right (leb (class a) (class b)) _ k in
    let e : a % 8 ≡ b % 8 =
    same_members (a % 8) (b % 8) (omega arith) (omega arith)
    (λ i l. same_truth (subset_elim _ _ theirs i l) (subset_elim _ _ mine i l)) in
    omega arith

-- ---- how two stand

module _ (a b : ℕ) where
  pub stands_equal : a ≡ b → stands a b ≡ Equal
  unfolding stands
  stands_equal e = if_true _ _ (eq-eqb a b e)

  module _ (d : a ≡ b → ⊥) where
    pub stands_above : over a b ≡ true → stands a b ≡ Above
    unfolding stands
    stands_above h = if_false _ _ (ne_eqb a b d) ∙ if_true _ _ h

    pub stands_below : over b a ≡ true → stands a b ≡ Below
    unfolding stands
    stands_below k = if_false _ _ (ne_eqb a b d) ∙ if_false _ _ (is_false (λ h. d (over_antisym a b h k))) ∙ if_true _ _ k

    pub stands_apart : over a b ≡ false → over b a ≡ false → stands a b ≡ Apart
    unfolding stands
    stands_apart h k = if_false _ _ (ne_eqb a b d) ∙ if_false _ _ h ∙ if_false _ _ k

over_refl : (a : ℕ) → over a a ≡ true
over_refl a = and_intro (le-leb (class a) (class a) (omega arith)) (subset_intro (brands a) (brands a) (λ i h k. k))

-- equal or above is what is asked for above, since a label is over itself
pub dominates_is : (a b : ℕ) → dominates a b ≡ over a b
unfolding equal_or_above
dominates_is a b =
    by_truth (eqb a b)
    (λ p. let e = eqb-true a b p in ap equal_or_above (stands_equal a b e) ∙ sym (ap (over a) (sym e) ∙ over_refl a))
    (λ p. let d = eqb-false a b p in
    by_truth (over a b)
    (λ h. ap equal_or_above (stands_above a b d h) ∙ sym h)
    (λ h. by_truth (over b a)
    (λ k. ap equal_or_above (stands_below a b d k) ∙ sym h)
    (λ k. ap equal_or_above (stands_apart a b d h k) ∙ sym h)))

-- ---- dominance

pub dominates_intro : (a b : ℕ) → class b ≤ class a → subset (brands b) (brands a) ≡ true → dominates a b ≡ true
dominates_intro a b h k = dominates_is a b ∙ and_intro (le-leb (class b) (class a) h) k

module _ (a b : ℕ) (h : dominates a b ≡ true) where
  pub class_least : class b ≤ class a
  class_least = leb-true (class b) (class a) (and_left _ _ (sym (dominates_is a b) ∙ h))

  pub set_holds : subset (brands b) (brands a) ≡ true
  set_holds = and_right (leb (class b) (class a)) _ (sym (dominates_is a b) ∙ h)

pub dominates_refl : (a : ℕ) → dominates a a ≡ true
dominates_refl a = dominates_is a a ∙ over_refl a

pub dominates_trans : (a b c : ℕ) → dominates a b ≡ true → dominates b c ≡ true → dominates a c ≡ true
dominates_trans a b c h k =
    let p = class_least a b h in
    let q = class_least b c k in
    dominates_intro a c (omega arith)
    (subset_intro (brands c) (brands a) (λ i l m. subset_elim _ _ (set_holds a b h) i l (subset_elim _ _ (set_holds b c k) i l m)))

pub dominates_antisym : (a b : ℕ) → dominates a b ≡ true → dominates b a ≡ true → a ≡ b
dominates_antisym a b h k = over_antisym a b (sym (dominates_is a b) ∙ h) (sym (dominates_is b a) ∙ k)

pub dominates_bottom : (a : ℕ) → dominates a 0 ≡ true
unfolding class brands
dominates_bottom a = dominates_intro a 0 (omega arith) (subset_intro 0 (a % 8) (λ i l m. clash m (has_zero i)))

-- ---- as the code finds it

module _ (a b : ℕ) {high low : ℕ} (p : high ≡ class a) (q : low ≡ class b) where
  pub class_short : high < low → over a b ≡ false
  class_short h = false_and _ (lt-leb (class b) (class a) (subst (λ (n : ℕ). n < class b) p (subst (λ (n : ℕ). high < n) q h)))

  -- where the class is enough, the sets tell
  pub sets_tell : low ≤ high → {mine theirs : ℕ} {told : Bool} → theirs ≡ brands b → mine ≡ brands a → told ≡ subset theirs mine
      → over a b ≡ told
  sets_tell h s t e =
      true_and _ (le-leb (class b) (class a) (subst (λ (n : ℕ). class b ≤ n) p (subst (λ (n : ℕ). n ≤ high) q h)))
      ∙ sym (ap₂ subset s t)
      ∙ sym e
