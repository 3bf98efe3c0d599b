-- Laws of a step of the reader, one for each way that it may go. Assumes nothing.
use Prim.Native.Nat.{ℕ, ◌+◌, ◌-◌, ◌*◌, ◌^◌, ◌<◌, ◌≤◌}
use mathlib.Core.Path.{◌≡◌, refl, ◌∙◌}
use mathlib.Core.Bool.{true}
use native.Mathlib.Omega.{arith}
use lib.Dec.{leb, ltb}
use borrow.Author.Tests.{ne_eqb, le-leb, leb-true, lt-ltb, ltb-true}
use Rattle.bits.proofs.Truth.{is_false, if_true, if_false, and_left, and_right, and_intro, false_and}
use Rattle.reader.specs.Line.{digit}
use Rattle.reader.specs.Reader.{letter, word_of, begun, pushed, step_of}
use Rattle.reader.specs.declared.Word.{Word}
use Rattle.reader.specs.declared.Fields.{Fields}
use Rattle.reader.specs.declared.Reader.TheVariants.{Letters, Tab, Digits, Broken}

-- ---- bytes

pub letter_least : (b : ℕ) → letter b ≡ true → 97 ≤ b
letter_least b h = leb-true 97 b (and_left _ _ h)

pub letter_most : (b : ℕ) → letter b ≡ true → b ≤ 122
letter_most b h = leb-true b 122 (and_right (leb 97 b) _ h)

pub letter_between : (b : ℕ) → 97 ≤ b → b ≤ 122 → letter b ≡ true
letter_between b least most = and_intro (le-leb 97 b least) (le-leb b 122 most)

pub digit_least : (b : ℕ) → digit b ≡ true → 48 ≤ b
digit_least b h = leb-true 48 b (and_left _ _ h)

pub digit_most : (b : ℕ) → digit b ≡ true → b ≤ 57
digit_most b h = leb-true b 57 (and_right (leb 48 b) _ h)

pub digit_between : (b : ℕ) → 48 ≤ b → b ≤ 57 → digit b ≡ true
digit_between b least most = and_intro (le-leb 48 b least) (le-leb b 57 most)

-- ---- in the word

pub word_tab : (x : ℕ) → step_of (Letters x) 9 ≡ begun (word_of x)
unfolding step_of
word_tab x = if_true _ _ refl

module _ (x b : ℕ) where
  pub letter_step : letter b ≡ true → x * 256 + b < 2 ^ 64 → step_of (Letters x) b ≡ Letters (x * 256 + b)
  unfolding step_of
  letter_step h fits =
      let low = letter_least b h in
      if_false _ _ (ne_eqb b 9 (λ e. omega arith)) ∙ if_true _ _ (and_intro h (lt-ltb _ _ fits))

  -- no tab, and no letter or one too many
  pub letter_none : (b ≡ 9 → ⊥) → (97 ≤ b → b ≤ 122 → x * 256 + b < 2 ^ 64 → ⊥) → step_of (Letters x) b ≡ Broken
  unfolding step_of
  letter_none n h =
      if_false _ _ (ne_eqb b 9 n)
      ∙ if_false _ _ (is_false (λ g.
      let found = and_left (letter b) _ g in
      h (letter_least b found) (letter_most b found) (ltb-true _ _ (and_right (letter b) _ g))))

-- ---- in a field

module _ (w : Word) (fs : Fields) where
  pub field_tab : step_of (Tab w fs) 9 ≡ Broken
  unfolding step_of
  field_tab = if_false _ _ (false_and _ refl)

  pub digits_tab : (v : ℕ) → step_of (Digits w fs v) 9 ≡ pushed w fs v
  unfolding step_of
  digits_tab v = if_true _ _ refl

module _ (w : Word) (fs : Fields) (b : ℕ) where
  pub field_step : digit b ≡ true → step_of (Tab w fs) b ≡ Digits w fs (b - 48)
  unfolding step_of
  field_step h = if_true _ _ h

  pub field_none : (48 ≤ b → b ≤ 57 → ⊥) → step_of (Tab w fs) b ≡ Broken
  unfolding step_of
  field_none h = if_false _ _ (is_false (λ g. h (digit_least b g) (digit_most b g)))

  pub digit_step : (v : ℕ) → 1 ≤ v → digit b ≡ true → v * 10 + (b - 48) < 2 ^ 64 → step_of (Digits w fs v) b ≡ Digits w fs (v * 10 + (b - 48))
  unfolding step_of
  digit_step v least h fits =
      let low = digit_least b h in
      if_false _ _ (ne_eqb b 9 (λ e. omega arith)) ∙ if_true _ _ (and_intro (lt-ltb 0 v least) (and_intro h (lt-ltb _ _ fits)))

  -- no tab, and no digit, one behind a first 0 or one too many
  pub digit_none : (v : ℕ) → (b ≡ 9 → ⊥) → (1 ≤ v → 48 ≤ b → b ≤ 57 → v * 10 + (b - 48) < 2 ^ 64 → ⊥) → step_of (Digits w fs v) b ≡ Broken
  unfolding step_of
  digit_none v n h =
      if_false _ _ (ne_eqb b 9 n)
      ∙ if_false _ _ (is_false (λ g.
      let rest = and_right (ltb 0 v) _ g in
      let found = and_left (digit b) _ rest in
      h (ltb-true 0 v (and_left _ _ g)) (digit_least b found) (digit_most b found) (ltb-true _ _ (and_right (digit b) _ rest))))

-- ---- a line that is refused

pub broken_step : (b : ℕ) → step_of Broken b ≡ Broken
unfolding step_of
broken_step b = refl

-- what a proof of the reader's code needs
pub ruleset step_laws = (letter_between, digit_between, word_tab, letter_step, letter_none, field_tab, digits_tab, field_step, field_none, digit_step, digit_none, broken_step)
