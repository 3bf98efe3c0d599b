-- How many numbers a test holds of, and how many members a word has. Assumes nothing.
use Prim.Native.Nat.{ℕ, zero, suc, ◌+◌, ◌^◌, ◌≤◌, ◌<◌}
use mathlib.Core.Path.{◌≡◌, refl, sym, ap, ap₂, ◌∙◌}
use mathlib.Core.Bool.{Bool, true, false}
use native.Mathlib.Omega.{arith}
use native.Mathlib.Nat.{lt_of_le_of_lt}
use lib.Bits.{bit_and, and_le_l}
use lib.Count.{ones, ones_in, ones_cat}
use Rattle.bits.specs.Words.{◌and◌, has, bit, pack}
use Rattle.bits.specs.Sets.{meet, count, size}
use Rattle.bits.proofs.Truth.{clash}
use Rattle.bits.proofs.Word.{pack_lt, pack_self, has_pack, has_and, pack_is}

ones_bit : (b : Bool) → ones (bit b) ≡ bit b
unfolding bit ones ones_in
ones_bit true = refl
ones_bit false = refl

ones_pack : (n : ℕ) (f : ℕ → Bool) → ones (pack n f) ≡ count n f
unfolding pack count
ones_pack zero f = unfold ones ones_in in refl
ones_pack (suc n) f = ones_cat n (bit (f n)) (pack n f) (pack_lt f n) ∙ ap₂ ◌+◌ (ones_bit (f n)) (ones_pack n f)

-- what the operation counts
pub ones_size : (w : ℕ) → w < 2 ^ 64 → ones w ≡ size w
unfolding size
ones_size w h = sym (ap ones (pack_self 64 w h)) ∙ ones_pack 64 (has w)

bit_less : (b c : Bool) → (b ≡ true → c ≡ true) → bit b ≤ bit c
unfolding bit
bit_less false c k = omega arith
bit_less true true k = omega arith
bit_less true false k = clash (k refl) refl

-- what holds of more numbers counts no less
pub count_le : (n : ℕ) {f g : ℕ → Bool} → ((i : ℕ) → i < n → f i ≡ true → g i ≡ true) → count n f ≤ count n g
unfolding count
count_le zero k = omega arith
count_le (suc n) {f} {g} k =
    let a = bit_less (f n) (g n) (k n (omega arith)) in
    let b = count_le n {f = f} {g = g} (λ i h. k i (omega arith)) in
    omega arith

pub count_cong : (n : ℕ) {f g : ℕ → Bool} → ((i : ℕ) → i < n → f i ≡ g i) → count n f ≡ count n g
unfolding count
count_cong zero k = refl
count_cong (suc n) {f} {g} k = ap₂ ◌+◌ (ap bit (k n (omega arith))) (count_cong n {f = f} {g = g} (λ i h. k i (omega arith)))

pub count_none : (n : ℕ) {f : ℕ → Bool} → ((i : ℕ) → i < n → f i ≡ false) → count n f ≡ 0
unfolding count
count_none zero k = refl
count_none (suc n) {f} k =
    let a : bit (f n) ≡ 0 = unfold bit in ap bit (k n (omega arith)) in
    let b = count_none n {f = f} (λ i h. k i (omega arith)) in
    omega arith

-- the members of a that are also in b
pub size_meet : (a b : ℕ) → size (meet a b) ≡ count 64 (λ i. has a i and has b i)
unfolding size meet
size_meet a b = count_cong 64 (λ i h. has_pack _ 64 i h)

pub meet_is : (a b : ℕ) → a < 2 ^ 64 → bit_and a b ≡ meet a b
unfolding meet
meet_is a b h = pack_is 64 (bit_and a b) _ (lt_of_le_of_lt (and_le_l a b) h) (λ i k. has_and a b i)
