-- Laws of tabulated lists, and of a loop that fills one. Assumes nothing.
use Prim.Native.Nat.{ℕ, zero, suc, ◌+◌, ◌≤◌, ◌<◌, suc-le-suc}
use mathlib.Core.Path.{◌≡◌, refl, sym, ap, ap₂, ◌∙◌}
use mathlib.Core.List.{List, ◌∷◌}
use native.Mathlib.Nat.{le_of_suc-le-suc, not-suc-le-zero}
use native.Mathlib.Numerals.{add-one}
use native.Mathlib.Omega.{arith}
use lib.Dec.{ltb}
use borrow.Author.Tests.{ltb-true, ltb-false}
use Rattle.bits.proofs.Truth.{by_truth}
use lib.ListN.{length, get_or, set, length-set, replicate, length-replicate, get_or-replicate}
use lib.Seq.{ext_get_or, get_or-set_same, get_or-set_other}
use Rattle.bits.proofs.Below.{below_suc}
use Rattle.bits.specs.Words.{tabulate}

module _ {A : Type 0} where
  pub length_tabulate : (n : ℕ) (f : ℕ → A) → length (tabulate n f) ≡ n
  unfolding tabulate
  length_tabulate zero f = refl
  length_tabulate (suc n) f = ap suc (length_tabulate n (λ i. f (suc i)))

  pub get_d_tabulate : (n : ℕ) (f : ℕ → A) (d : A) (i : ℕ) → i < n → get_or (tabulate n f) i d ≡ f i
  unfolding tabulate
  get_d_tabulate zero f d i h = absurd (not-suc-le-zero h)
  get_d_tabulate (suc n) f d zero h = refl
  get_d_tabulate (suc n) f d (suc i) h = get_d_tabulate n (λ k. f (suc k)) d i (le_of_suc-le-suc h)

  pub tabulate_cong : (n : ℕ) {f g : ℕ → A} → ((i : ℕ) → i < n → f i ≡ g i) → tabulate n f ≡ tabulate n g
  unfolding tabulate
  tabulate_cong zero k = refl
  tabulate_cong (suc n) k = ap₂ ◌∷◌ (k 0 (omega arith)) (tabulate_cong n (λ i h. k (suc i) (suc-le-suc h)))

-- ---- a loop that fills a list from the front: the first i are filled

pub record Filling (f : ℕ → ℕ) (n : ℕ) (out : List ℕ) (i : ℕ) : Type 0 where
  pub within : i ≤ n
  pub long : length out ≡ n
  pub filled : (k : ℕ) → k < i → get_or out k 0 ≡ f k

module _ {f : ℕ → ℕ} {n : ℕ} {out : List ℕ} where
  pub fill_start : length out ≡ n → Filling f n out 0
  fill_start e = record { within = omega arith; long = e; filled = λ k h. absurd (not-suc-le-zero h) }

  pub fill_step : {i v : ℕ} → Filling f n out i → i < n → v ≡ f i → Filling f n (set out i v) (i + 1)
  fill_step {i} {v} k h e = record {
    within = omega arith;
    long = length-set out i v ∙ k.long;
    filled = λ j l. below_suc (rw add-one at l)
        (λ q. ap (λ (x : ℕ). get_or (set out i v) x 0) q ∙ get_or-set_same out i v 0 (let m = k.long in omega arith) ∙ e ∙ sym (ap f q))
        (λ m. get_or-set_other out i j v 0 (λ q. omega arith) ∙ k.filled j m);
  }

  pub fill_end : {i : ℕ} → Filling f n out i → n ≤ i → out ≡ tabulate n f
  fill_end k h =
      ext_get_or 0 out (tabulate n f) (k.long ∙ sym (length_tabulate n f))
      (λ j l. let m = k.long in k.filled j (omega arith) ∙ sym (get_d_tabulate n f 0 j (omega arith)))

-- the list of which each of its n places is known
pub tabulated : (n : ℕ) (f : ℕ → ℕ) {out : List ℕ} → length out ≡ n → ((i : ℕ) → i < n → get_or out i 0 ≡ f i) → out ≡ tabulate n f
tabulated n f e k = fill_end (record { within = omega arith; long = e; filled = k }) (omega arith)

-- a list of nothing but 0
pub zeros : (n : ℕ) (f : ℕ → ℕ) → ((i : ℕ) → i < n → f i ≡ 0) → replicate n 0 ≡ tabulate n f
zeros n f k = tabulated n f (length-replicate n 0) (λ i h. get_or-replicate n i 0 0 h ∙ sym (k i h))

-- ---- a loop that writes f into a list from the place at on: what lies before i is written

pub record Writing (f : ℕ → ℕ) (at : ℕ) (old out : List ℕ) (i : ℕ) : Type 0 where
  pub from : at ≤ i
  pub long : length out ≡ length old
  pub before : (j : ℕ) → j < at → get_or out j 0 ≡ get_or old j 0
  pub written : (j : ℕ) → at ≤ j → j < i → get_or out j 0 ≡ f j
  pub after : (j : ℕ) → i ≤ j → get_or out j 0 ≡ get_or old j 0

module _ {f : ℕ → ℕ} {at : ℕ} {old : List ℕ} where
  pub write_start : Writing f at old old at
  write_start = record {
    from = omega arith;
    long = refl;
    before = λ j h. refl;
    written = λ j h l. absurd (omega arith);
    after = λ j h. refl;
  }

  pub write_step : {out : List ℕ} {i v : ℕ} → Writing f at old out i → i < length out → v ≡ f i → Writing f at old (set out i v) (i + 1)
  write_step {out} {i} {v} k h e =
      let l = k.from in
      record {
        from = omega arith;
        long = length-set out i v ∙ k.long;
        before = λ j m. get_or-set_other out i j v 0 (λ q. omega arith) ∙ k.before j m;
        written = λ j m n. below_suc (rw add-one at n)
            (λ q. ap (λ (x : ℕ). get_or (set out i v) x 0) q ∙ get_or-set_same out i v 0 h ∙ e ∙ sym (ap f q))
            (λ p. get_or-set_other out i j v 0 (λ q. omega arith) ∙ k.written j m p);
        after = λ j m. get_or-set_other out i j v 0 (λ q. omega arith) ∙ k.after j (omega arith);
      }

  -- the whole list, where g says of each place what the loop has left there
  pub write_end : {out : List ℕ} {i : ℕ} (g : ℕ → ℕ) → Writing f at old out i
      → ((j : ℕ) → j < at → g j ≡ get_or old j 0) → ((j : ℕ) → at ≤ j → j < i → g j ≡ f j)
      → ((j : ℕ) → i ≤ j → j < length old → g j ≡ get_or old j 0) → out ≡ tabulate (length old) g
  write_end {out} {i} g k p q r =
      ext_get_or 0 out (tabulate (length old) g) (k.long ∙ sym (length_tabulate (length old) g))
      (λ j h.
      let l = k.long in
      let m : j < length old = omega arith in
      by_truth (ltb j at)
      (λ b. let c = ltb-true j at b in k.before j c ∙ sym (p j c))
      (λ b.
      let c = ltb-false j at b in
      by_truth (ltb j i)
      (λ d. let e = ltb-true j i d in k.written j c e ∙ sym (q j c e))
      (λ d. let e = ltb-false j i d in k.after j e ∙ sym (r j e m)))
      ∙ sym (get_d_tabulate (length old) g 0 j m))
