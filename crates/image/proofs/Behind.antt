-- A test behind another, as `&&` makes it. Assumes nothing.
use mathlib.Core.Path.{◌≡◌, sym, ◌∙◌}
use mathlib.Core.Bool.{Bool, true, false}
use Rattle.bits.specs.Words.{◌and◌}
use Rattle.bits.proofs.Truth.{true_and, false_and}

-- made where the first passes
pub went_on : {v l r a b : Bool} → v ≡ r → l ≡ true → l ≡ a → r ≡ b → v ≡ a and b
went_on e y p q = e ∙ q ∙ sym (true_and _ (sym p ∙ y))

-- and else no
pub stopped_at : {v l a : Bool} (b : Bool) → v ≡ l → l ≡ false → l ≡ a → v ≡ a and b
stopped_at b e n p = e ∙ n ∙ sym (false_and b (sym p ∙ n))
