-- Laws of a reader that goes on through a block, and of how large what it reads may grow. Assumes nothing.
use Prim.Native.Nat.{ℕ, ◌+◌, ◌-◌, ◌*◌, ◌^◌, ◌<◌, ◌≤◌}
use mathlib.Core.Path.{◌≡◌, refl, ap, ◌∙◌}
use mathlib.Core.Bool.{true, false}
use mathlib.Core.List.{List, [], ◌∷◌}
use native.Mathlib.Omega.{arith}
use native.Mathlib.Nat.{pow-suc, pow-le-pow_right, mul-le-mul_right, lt_of_lt_of_le}
use native.Mathlib.Numerals.{add-one}
use lib.Dec.{eqb}
use lib.ListN.{length, get_or, drop, drop_of_length-le}
use lib.Seq.{drop-cons}
use borrow.Author.Tests.{eq-eqb, ne_eqb}
use Rattle.bits.proofs.Truth.{if_true, if_false}
use Rattle.reader.specs.Reader.{word_of, begun, pushed, step_of}
use Rattle.reader.specs.declared.Word.{Word}
use Rattle.reader.specs.declared.Fields.{Fields}
use Rattle.reader.specs.declared.Reader.{Reader}
use Rattle.reader.specs.declared.Reader.TheVariants.{Letters, Tab, Digits}
use Rattle.reader.proofs.Stepping.{letter_between, digit_between, word_tab, digits_tab, letter_step, field_step, digit_step}
use Rattle.lines.specs.Blocks.{fed, GoesOn, DigitsGoOn}

-- ---- a number of k digits at most

-- one digit more
pub grown : (base k m v d : ℕ) → m ≡ k + 1 → v < base ^ k → d < base → v * base + d < base ^ m
grown base k m v d e h small =
    let more : (v + 1) * base ≤ base ^ k * base = mul-le-mul_right base (omega arith) in
    let power : base ^ m ≡ base ^ k * base = ap (λ (n : ℕ). base ^ n) (e ∙ add-one k) ∙ pow-suc base k in
    omega arith

pub below : (base k m v : ℕ) → 0 < base → k ≤ m → v < base ^ k → v < base ^ m
below base k m v some e h = lt_of_lt_of_le h (pow-le-pow_right some e)

-- ---- a byte more, or none

module _ (s : Reader) where
  pub fed_none : (at : ℕ) → fed s [] at ≡ record { whole = false; reader = s; next = at }
  unfolding fed
  fed_none at = refl

  pub fed_line : (b : ℕ) (l : List ℕ) (at : ℕ) → eqb b 10 ≡ true → fed s (b ∷ l) at ≡ record { whole = true; reader = s; next = at + 1 }
  unfolding fed
  fed_line b l at e = if_true _ _ e

  pub fed_byte : (b : ℕ) (l : List ℕ) (at : ℕ) → eqb b 10 ≡ false → fed s (b ∷ l) at ≡ fed (step_of s b) l (at + 1)
  unfolding fed
  fed_byte b l at e = if_false _ _ e

-- ---- a byte of a block

-- no byte is left
pub none_left : (l : List ℕ) (at : ℕ) (s : Reader) → length l ≤ at → fed s (drop at l) at ≡ record { whole = false; reader = s; next = at }
none_left l at s h = rw (drop_of_length-le l h) (fed_none s at)

-- readers that are the same
pub same_on : (l : List ℕ) (at : ℕ) {s t : Reader} → s ≡ t → GoesOn l s at t at
same_on l at e = ap (λ (s : Reader). fed s (drop at l) at) e

module _ (l : List ℕ) (at : ℕ) (b : ℕ) (inside : at < length l) (here : get_or l at 0 ≡ b) where
  -- any but the newline
  pub byte_on : (s : Reader) → (b ≡ 10 → ⊥) → GoesOn l s at (step_of s b) (at + 1)
  unfolding fed
  byte_on s n = rw (drop-cons l at 0 inside, here, add-one at) (if_false _ _ (ne_eqb b 10 n))

  -- the newline
  pub line_on : (s : Reader) → b ≡ 10 → fed s (drop at l) at ≡ record { whole = true; reader = s; next = at + 1 }
  line_on s e = rw (drop-cons l at 0 inside, here) (fed_line s b _ at (eq-eqb b 10 e))

  -- a letter of the word
  pub letter_on : (x : ℕ) → 97 ≤ b → b ≤ 122 → x * 256 + b < 2 ^ 64 → GoesOn l (Letters x) at (Letters (x * 256 + b)) (at + 1)
  letter_on x least most fits =
      byte_on (Letters x) (λ e. omega arith) ∙ same_on l (at + 1) (letter_step x b (letter_between b least most) fits)

  -- the first digit of a field
  pub field_on : (w : Word) (fs : Fields) → 48 ≤ b → b ≤ 57 → GoesOn l (Tab w fs) at (Digits w fs (b - 48)) (at + 1)
  field_on w fs least most =
      byte_on (Tab w fs) (λ e. omega arith) ∙ same_on l (at + 1) (field_step w fs b (digit_between b least most))

  -- another
  pub digit_on : (v : ℕ) → 1 ≤ v → 48 ≤ b → b ≤ 57 → v * 10 + (b - 48) < 2 ^ 64 → DigitsGoOn l v at (v * 10 + (b - 48)) (at + 1)
  digit_on v some least most fits w fs =
      byte_on (Digits w fs v) (λ e. omega arith) ∙ same_on l (at + 1) (digit_step w fs b v some (digit_between b least most) fits)

-- ---- a tab

module _ (l : List ℕ) (at : ℕ) (inside : at < length l) (here : get_or l at 0 ≡ 9) where
  -- behind the word
  pub word_over : (x : ℕ) → GoesOn l (Letters x) at (begun (word_of x)) (at + 1)
  word_over x = byte_on l at 9 inside here (Letters x) (λ e. omega arith) ∙ same_on l (at + 1) (word_tab x)

  -- behind a field
  pub field_over : (w : Word) (fs : Fields) (v : ℕ) → GoesOn l (Digits w fs v) at (pushed w fs v) (at + 1)
  field_over w fs v = byte_on l at 9 inside here (Digits w fs v) (λ e. omega arith) ∙ same_on l (at + 1) (digits_tab w fs v)

-- what a proof of the code needs
pub ruleset going = (none_left, byte_on, line_on, letter_on, field_on, digit_on, word_over, field_over, grown, below)
