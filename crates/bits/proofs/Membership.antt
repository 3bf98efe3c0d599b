-- Laws of every and of some member of a word, of subset and overlap. Assumes nothing.
use Prim.Native.Nat.{ℕ, ◌-◌, ◌^◌, ◌<◌}
use mathlib.Core.Path.{◌≡◌, sym, ap, ◌∙◌}
use mathlib.Core.Bool.{Bool, true, false, not}
use lib.Dec.{eqb}
use lib.Bits.{bit_and, and_le_l}
use native.Mathlib.Nat.{lt_of_le_of_lt}
use borrow.Author.Tests.{eq-eqb, ne_eqb, eqb-true, not-true}
use Rattle.bits.specs.Words.{has, subset, pack}
use Rattle.bits.specs.Sets.{each, some, overlap}
use Rattle.bits.proofs.Truth.{clash, by_truth, is_false, same_truth, and_intro, and_left, and_right, or_right, or_elim, implies_intro, implies_elim}
use Rattle.bits.proofs.Below.{all_intro, all_elim, any_intro, any_elim}
use Rattle.bits.proofs.Word.{has_zero, has_and, has_not, has_pack, none_in}

-- a member of w of which f holds
pub record Some (w : ℕ) (f : ℕ → Bool) : Type 0 where
  pub at : ℕ
  pub below : at < 64
  pub member : has w at ≡ true
  pub holds : f at ≡ true

-- the word 0 has no member
pub not_empty : (w i : ℕ) → has w i ≡ true → w ≡ 0 → ⊥
not_empty w i e q = clash e (ap (λ (x : ℕ). has x i) q ∙ has_zero i)

module _ (w : ℕ) (f : ℕ → Bool) where
  pub each_intro : ((i : ℕ) → i < 64 → has w i ≡ true → f i ≡ true) → each w f ≡ true
  unfolding each
  each_intro k = or_right (eqb w 0) (all_intro _ 64 (λ i h. implies_intro (has w i) (f i) (k i h)))

  pub each_elim : each w f ≡ true → (i : ℕ) → i < 64 → has w i ≡ true → f i ≡ true
  unfolding each
  each_elim e i h m =
      or_elim (eqb w 0) _ e
      (λ p. absurd (not_empty w i m (eqb-true w 0 p)))
      (λ p. implies_elim (has w i) (f i) (all_elim _ 64 p i h) m)

  pub some_intro : (i : ℕ) → i < 64 → has w i ≡ true → f i ≡ true → some w f ≡ true
  unfolding some
  some_intro i h m e =
      and_intro (ap not (ne_eqb w 0 (not_empty w i m))) (any_intro _ 64 i h (and_intro m e))

  pub some_elim : some w f ≡ true → Some w f
  unfolding some
  some_elim e =
      let a = any_elim _ 64 (and_right (not (eqb w 0)) _ e) in
      record {
        at = a.at;
        below = a.below;
        member = and_left (has w a.at) _ a.holds;
        holds = and_right (has w a.at) _ a.holds;
      }

-- where it does not hold of each member, there is one of which it does not hold
pub each_counter : (w : ℕ) (f : ℕ → Bool) → each w f ≡ false → Some w (λ i. not (f i))
each_counter w f e =
    by_truth (some w (λ i. not (f i))) (some_elim w (λ i. not (f i)))
    (λ p. clash (each_intro w f (λ i h m. by_truth (f i) (λ q. q) (λ q. clash (some_intro w (λ i. not (f i)) i h m (ap not q)) p))) e)

pub each_none : (f : ℕ → Bool) → each 0 f ≡ true
each_none f = each_intro 0 f (λ i h m. clash m (has_zero i))

pub some_none : (f : ℕ → Bool) → some 0 f ≡ false
some_none f = is_false (λ e. let s = some_elim 0 f e in clash s.member (has_zero s.at))

module _ (w : ℕ) {f g : ℕ → Bool} where
  -- what holds more often
  pub each_mono : ((i : ℕ) → i < 64 → has w i ≡ true → f i ≡ true → g i ≡ true) → each w f ≡ true → each w g ≡ true
  each_mono k e = each_intro w g (λ i h m. k i h m (each_elim w f e i h m))

  pub some_mono : ((i : ℕ) → i < 64 → has w i ≡ true → f i ≡ true → g i ≡ true) → some w f ≡ true → some w g ≡ true
  some_mono k e =
      let s = some_elim w f e in
      some_intro w g s.at s.below s.member (k s.at s.below s.member s.holds)

module _ (w : ℕ) {f g : ℕ → Bool} (k : (i : ℕ) → i < 64 → f i ≡ g i) where
  pub each_cong : each w f ≡ each w g
  each_cong = same_truth (each_mono w (λ i h m e. sym (k i h) ∙ e)) (each_mono w (λ i h m e. k i h ∙ e))

  pub some_cong : some w f ≡ some w g
  some_cong = same_truth (some_mono w (λ i h m e. sym (k i h) ∙ e)) (some_mono w (λ i h m e. k i h ∙ e))

-- ---- subset and overlap

module _ (a b : ℕ) where
  pub subset_intro : ((i : ℕ) → i < 64 → has a i ≡ true → has b i ≡ true) → subset a b ≡ true
  unfolding subset
  subset_intro k = all_intro _ 64 (λ i h. implies_intro (has a i) (has b i) (k i h))

  pub subset_elim : subset a b ≡ true → (i : ℕ) → i < 64 → has a i ≡ true → has b i ≡ true
  unfolding subset
  subset_elim e i h m = implies_elim (has a i) (has b i) (all_elim _ 64 e i h) m

  pub overlap_intro : (i : ℕ) → i < 64 → has a i ≡ true → has b i ≡ true → overlap a b ≡ true
  unfolding overlap
  overlap_intro i h m e = some_intro a (has b) i h m e

  pub overlap_elim : overlap a b ≡ true → Some a (has b)
  unfolding overlap
  overlap_elim e = some_elim a (has b) e

-- every member of a is in the word of a predicate: it has the property
pub subset_pack : (a : ℕ) (f : ℕ → Bool) → subset a (pack 64 f) ≡ each a f
subset_pack a f =
    same_truth
    (λ e. each_intro a f (λ i h m. sym (has_pack f 64 i h) ∙ subset_elim a (pack 64 f) e i h m))
    (λ e. subset_intro a (pack 64 f) (λ i h m. has_pack f 64 i h ∙ each_elim a f e i h m))

-- ---- as the code works them out

-- two words whose `and` is 0 have no member in common
no_common : (a b : ℕ) → bit_and a b ≡ 0 → (i : ℕ) → has a i ≡ true → has b i ≡ true → ⊥
no_common a b e i p q = not_empty (bit_and a b) i (has_and a b i ∙ and_intro p q) e

pub subset_is : (a b : ℕ) → a < 2 ^ 64 → b < 2 ^ 64 → eqb (bit_and a (2 ^ 64 - 1 - b)) 0 ≡ subset a b
subset_is a b ha hb =
    same_truth
    (λ e. subset_intro a b (λ i h m. by_truth (has b i) (λ p. p)
    (λ p. absurd (no_common a (2 ^ 64 - 1 - b) (eqb-true _ 0 e) i m (has_not b i hb h ∙ ap not p)))))
    (λ e. eq-eqb _ 0 (none_in (bit_and a (2 ^ 64 - 1 - b)) (lt_of_le_of_lt (and_le_l a (2 ^ 64 - 1 - b)) ha)
    (λ i h. is_false (λ p.
    let m = sym (has_and a (2 ^ 64 - 1 - b) i) ∙ p in
    clash (subset_elim a b e i h (and_left (has a i) _ m)) (not-true (has b i) (sym (has_not b i hb h) ∙ and_right (has a i) _ m))))))

pub overlap_is : (a b : ℕ) → a < 2 ^ 64 → not (eqb (bit_and a b) 0) ≡ overlap a b
overlap_is a b ha =
    same_truth
    (λ e. by_truth (overlap a b) (λ p. p)
    (λ p. clash (eq-eqb (bit_and a b) 0 (none_in (bit_and a b) (lt_of_le_of_lt (and_le_l a b) ha) (λ i h. is_false (λ q.
    let m = sym (has_and a b i) ∙ q in
    clash (overlap_intro a b i h (and_left (has a i) _ m) (and_right (has a i) _ m)) p)))) (not-true (eqb (bit_and a b) 0) e)))
    (λ e. let s = overlap_elim a b e in ap not (ne_eqb (bit_and a b) 0 (λ q. no_common a b q s.at s.member s.holds)))
