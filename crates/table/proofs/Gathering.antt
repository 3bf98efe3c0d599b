-- A loop that joins words to see whether all are 0. Assumes nothing.
use Prim.Native.Nat.{ℕ, ◌+◌, ◌^◌, ◌≤◌, ◌<◌}
use mathlib.Core.Path.{◌≡◌, refl, sym, ap, subst, ◌∙◌}
use mathlib.Core.Bool.{Bool}
use native.Mathlib.Numerals.{add-one}
use native.Mathlib.Omega.{arith}
use lib.Dec.{eqb}
use borrow.Author.Tests.{eq-eqb, eqb-true}
use Rattle.bits.specs.Words.{◌and◌, has, all}
use Rattle.bits.specs.Sets.{join}
use Rattle.bits.proofs.Truth.{clash, is_false, same_truth, and_intro, and_left, and_right, or_left, or_right, false_or}
use Rattle.bits.proofs.Below.{all_none}
use Rattle.bits.proofs.Word.{has_zero, has_join, join_lt, none_in}

-- one number more
all_step : (f : ℕ → Bool) (n : ℕ) → all (n + 1) f ≡ all n f and f n
unfolding all
all_step f n = rw add-one refl

-- two words together have no member exactly when neither has
join_empty : (a b : ℕ) → a < 2 ^ 64 → b < 2 ^ 64 → eqb (join a b) 0 ≡ eqb a 0 and eqb b 0
join_empty a b ha hb =
    same_truth
    (λ e.
    let z = eqb-true (join a b) 0 e in
    and_intro
    (eq-eqb a 0 (none_in a ha (λ i h. is_false (λ m. clash (has_join a b i h ∙ or_left _ m) (ap (λ (w : ℕ). has w i) z ∙ has_zero i)))))
    (eq-eqb b 0 (none_in b hb (λ i h. is_false (λ m. clash (has_join a b i h ∙ or_right (has a i) m) (ap (λ (w : ℕ). has w i) z ∙ has_zero i))))))
    (λ e.
    let p = eqb-true a 0 (and_left _ _ e) in
    let q = eqb-true b 0 (and_right (eqb a 0) _ e) in
    eq-eqb (join a b) 0 (none_in (join a b) (join_lt a b) (λ i h.
    has_join a b i h ∙ false_or _ (ap (λ (w : ℕ). has w i) p ∙ has_zero i) ∙ ap (λ (w : ℕ). has w i) q ∙ has_zero i)))

-- ---- the words passed are joined

module _ (words : ℕ → ℕ) (n : ℕ) where
  abbrev empty : ℕ → Bool
  empty i = eqb (words i) 0

  pub record Gathering (joined i : ℕ) : Type 0 where
    pub within : i ≤ n
    pub word : joined < 2 ^ 64
    pub so_far : eqb joined 0 ≡ all i empty

  pub gather_start : Gathering 0 0
  gather_start = record { within = omega arith; word = omega arith; so_far = sym (all_none empty) }

  pub gather_step : {joined i more : ℕ} → Gathering joined i → i < n → words i < 2 ^ 64 → more ≡ join joined (words i) → Gathering more (i + 1)
  gather_step {joined} {i} {more} g h w e = record {
    within = omega arith;
    word = subst (λ (n : ℕ). n < 2 ^ 64) (sym e) (join_lt joined (words i));
    so_far =
        ap (λ (n : ℕ). eqb n 0) e
        ∙ join_empty joined (words i) g.word w
        ∙ ap (λ (b : Bool). b and empty i) g.so_far
        ∙ sym (all_step empty i);
  }

  pub gather_end : {joined i : ℕ} → Gathering joined i → n ≤ i → eqb joined 0 ≡ all n (λ i. eqb (words i) 0)
  gather_end {joined} {i} g h = g.so_far ∙ ap (λ (k : ℕ). all k empty) (let l = g.within in omega arith)
