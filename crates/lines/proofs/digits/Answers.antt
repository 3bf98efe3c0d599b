-- The goals that are left.
use mathlib.Core.Path.{refl, ◌∙◌}
use native.Mathlib.Omega.{arith}
use lib.Dec.{lit<}
use Rattle.lines.proofs.Going.{grown, below, digit_on}
use Rattle.lines.proofs.digits.Goals as goal

pub overflow_mul-value : goal.overflow_mul-value
overflow_mul-value c =
    let small = below 10 _ 18 _ (lit< tt) (omega arith) c.loop-i.invariant.3 in
    record { fits = omega arith }

pub overflow_add-value : goal.overflow_add-value
overflow_add-value c =
    let small = below 10 _ 18 _ (lit< tt) (omega arith) c.loop-i.invariant.3 in
    record { fits = omega (arith, c.from.ensures, c.if-not-is_ascii_digit.ensures.cases) }

pub loop-i-preserved : goal.loop-i-preserved
loop-i-preserved c =
    let here = c.loop-i in
    let found = c.if-not-is_ascii_digit.ensures.cases in
    let small = below 10 _ 18 _ (lit< tt) (omega arith) here.invariant.3 in
    rw c.from.ensures (
      omega arith,
      omega arith,
      omega (arith, here.invariant.2),
      grown 10 _ _ _ _ (omega arith) here.invariant.3 (omega (arith, found)),
      λ w fs. here.invariant.4 w fs ∙ digit_on _ here.i _ (omega arith) refl here.value here.invariant.2 (omega (arith, found)) (omega (arith, found)) (omega (arith, found)) w fs,
    )
