-- Words that are each role itself and the words of its direct juniors, where no direct junior's word has the role: they hold
-- exactly what chains of links reach, and no two roles reach each other. And words that do are such. Assumes nothing.
use Prim.Native.Nat.{ℕ, zero, suc, ◌*◌, ◌^◌, ◌≤◌, ◌<◌}
use mathlib.Core.Path.{◌≡◌, refl, sym, ap, subst, ◌∙◌}
use mathlib.Core.Bool.{Bool, true, false}
use mathlib.Core.List.{List}
use mathlib.Core.Logic.{◌⊎◌, inl, inr, ⊎_elim}
use native.Mathlib.Omega.{arith}
use lib.Dec.{eqb}
use lib.ListN.{get_or}
use borrow.Author.Tests.{eq-eqb, eqb-true}
use Rattle.bits.specs.Words.{◌or◌, has, bit, pack}
use Rattle.bits.specs.Sets.{some}
use Rattle.bits.proofs.Truth.{clash, is_false, same_truth, or_left, or_right, or_elim}
use Rattle.bits.proofs.Below.{below_suc}
use Rattle.bits.proofs.Word.{pack_lt, pack_self}
use Rattle.bits.proofs.Membership.{not_empty, some_intro, some_elim}
use Rattle.closure.specs.Closure.{Reaches, here, link}

-- ---- a word with fewer members is less

bit_le : (b c : Bool) (m : ℕ) → (b ≡ true → c ≡ true) → bit b * m ≤ bit c * m
unfolding bit
bit_le false false m k = omega arith
bit_le false true m k = omega arith
bit_le true true m k = omega arith
bit_le true false m k = clash (k refl) refl

module _ (f g : ℕ → Bool) where
  pack_le : (n : ℕ) → ((i : ℕ) → i < n → f i ≡ true → g i ≡ true) → pack n f ≤ pack n g
  unfolding pack
  pack_le zero k = omega arith
  pack_le (suc n) k =
      let a = bit_le (f n) (g n) (2 ^ n) (k n (omega arith)) in
      let b = pack_le n (λ i h. k i (omega arith)) in
      omega arith

  pack_less : (n i : ℕ) → ((j : ℕ) → j < n → f j ≡ true → g j ≡ true) → i < n → f i ≡ false → g i ≡ true → pack n f < pack n g
  unfolding pack
  pack_less zero i k h p q = absurd (omega arith)
  pack_less (suc n) i k h p q =
      below_suc h
      (λ e.
      let b = pack_le n (λ j l. k j (omega arith)) in
      let x : bit (f n) * 2 ^ n ≡ 0 = unfold bit in ap (λ (c : Bool). bit c * 2 ^ n) (sym (ap f e) ∙ p) ∙ omega arith in
      let y : bit (g n) * 2 ^ n ≡ 2 ^ n = unfold bit in ap (λ (c : Bool). bit c * 2 ^ n) (sym (ap g e) ∙ q) ∙ omega arith in
      let z : pack n g < 2 ^ n = pack_lt g n in
      omega arith)
      (λ l.
      let a = bit_le (f n) (g n) (2 ^ n) (k n (omega arith)) in
      let b = pack_less n i (λ j m. k j (omega arith)) l p q in
      omega arith)

fewer : (a b i : ℕ) → a < 2 ^ 64 → b < 2 ^ 64 → i < 64 → ((j : ℕ) → j < 64 → has a j ≡ true → has b j ≡ true) → has a i ≡ false → has b i ≡ true → a < b
fewer a b i ha hb hi k p q =
    let x = pack_self 64 a ha in
    let y = pack_self 64 b hb in
    let z = pack_less (has a) (has b) 64 i k hi p q in
    omega arith

-- ---- such words

-- role p is r, or among the juniors of a direct junior of r
abbrev pub step : List ℕ → (ℕ → ℕ) → ℕ → ℕ → Bool
step direct j r p = eqb p r or some (get_or direct r 0) (λ q. has (j q) p)

pub record Fixed (direct : List ℕ) (j : ℕ → ℕ) : Type 0 where
  pub word : (r : ℕ) → r < 64 → j r < 2 ^ 64
  pub fixed : (r p : ℕ) → r < 64 → p < 64 → has (j r) p ≡ step direct j r p
  pub no_back : (r q : ℕ) → r < 64 → q < 64 → has (get_or direct r 0) q ≡ true → has (j q) r ≡ false

module _ (direct : List ℕ) (j : ℕ → ℕ) (f : Fixed direct j) where
  itself : (r : ℕ) → r < 64 → has (j r) r ≡ true
  itself r h = f.fixed r r h h ∙ or_left _ (eq-eqb r r refl)

  below : (r q p : ℕ) → r < 64 → q < 64 → p < 64 → has (get_or direct r 0) q ≡ true → has (j q) p ≡ true → has (j r) p ≡ true
  below r q p hr hq hp d e = f.fixed r p hr hp ∙ or_right (eqb p r) (some_intro (get_or direct r 0) _ q hq d e)

  -- a direct junior has fewer
  less : (r q : ℕ) → r < 64 → q < 64 → has (get_or direct r 0) q ≡ true → j q < j r
  less r q hr hq d =
      fewer (j q) (j r) r (f.word q hq) (f.word r hr) hr (λ p hp e. below r q p hr hq hp d e)
      (f.no_back r q hr hq d)
      (itself r hr)

  reached : (n r p : ℕ) → j r ≤ n → r < 64 → p < 64 → has (j r) p ≡ true → Reaches direct r p
  reached zero r p h hr hp e = absurd (not_empty (j r) p e (omega arith))
  reached (suc n) r p h hr hp e =
      or_elim (eqb p r) _ (sym (f.fixed r p hr hp) ∙ e)
      (λ z. subst (Reaches direct r) (sym (eqb-true p r z)) here)
      (λ z.
      let q = some_elim (get_or direct r 0) _ z in
      let l = less r q.at hr q.below q.member in
      link q.below q.member (reached n q.at p (omega arith) q.below hp q.holds))

  pub fixed_reached : (r p : ℕ) → r < 64 → p < 64 → has (j r) p ≡ true → Reaches direct r p
  fixed_reached r p hr hp e = reached (j r) r p (omega arith) hr hp e

  pub fixed_reaches : (r p : ℕ) → r < 64 → p < 64 → Reaches direct r p → has (j r) p ≡ true
  fixed_reaches r p hr hp here = itself r hr
  fixed_reaches r p hr hp (link {p = q} l e a) = below r q p hr l hp e (fixed_reaches q p l hp a)

  -- down a chain there are fewer, so that none leads back
  lower : {r q : ℕ} → r < 64 → Reaches direct r q → (r ≡ q) ⊎ (j q < j r)
  lower hr here = inl refl
  lower {r} {q} hr (link {p = p} l e a) =
      let k = less r p hr l e in
      ⊎_elim (λ z. inr (subst (λ (n : ℕ). j n < j r) z k)) (λ z. inr (omega arith)) (lower l a)

  pub fixed_one_way : (r q : ℕ) → r < 64 → q < 64 → Reaches direct r q → Reaches direct q r → r ≡ q
  fixed_one_way r q hr hq a b =
      ⊎_elim (λ e. e) (λ m. ⊎_elim (λ e. sym e) (λ n. absurd (omega arith)) (lower hq b)) (lower hr a)

  pub fixed_own_clear : (r : ℕ) → r < 64 → has (get_or direct r 0) r ≡ false
  fixed_own_clear r h = is_false (λ e. clash (itself r h) (f.no_back r r h h e))

-- ---- words that hold what chains reach are such

module _ (direct : List ℕ) (j : ℕ → ℕ)
    (to : (r p : ℕ) → r < 64 → p < 64 → has (j r) p ≡ true → Reaches direct r p)
    (from : (r p : ℕ) → r < 64 → p < 64 → Reaches direct r p → has (j r) p ≡ true) where
  first_link : {r p : ℕ} → r < 64 → p < 64 → Reaches direct r p → step direct j r p ≡ true
  first_link {r} hr hp here = or_left _ (eq-eqb r r refl)
  first_link {r} {p} hr hp (link {p = q} l e a) = or_right (eqb p r) (some_intro (get_or direct r 0) _ q l e (from q p l hp a))

  pub reached_fixed : (r p : ℕ) → r < 64 → p < 64 → has (j r) p ≡ step direct j r p
  reached_fixed r p hr hp =
      same_truth
      (λ e. first_link hr hp (to r p hr hp e))
      (λ e. or_elim (eqb p r) _ e
      (λ z. subst (λ (n : ℕ). has (j r) n ≡ true) (sym (eqb-true p r z)) (from r r hr hr here))
      (λ z.
      let q = some_elim (get_or direct r 0) _ z in
      from r p hr hp (link q.below q.member (to q.at p q.below hp q.holds))))
