-- The goals that are left.
use native.Mathlib.Omega.{arith}
use lib.Dec.{lit<}
use Rattle.lines.proofs.Going.{below}
use Rattle.lines.proofs.letters.Goals as goal

pub overflow_mul-value : goal.overflow_mul-value
overflow_mul-value c =
    let small = below 256 _ 7 _ (lit< tt) (omega arith) c.loop-i.invariant.2 in
    record { fits = omega arith }

pub overflow_add-value : goal.overflow_add-value
overflow_add-value c =
    let small = below 256 _ 7 _ (lit< tt) (omega arith) c.loop-i.invariant.2 in
    record { fits = omega (arith, c.from.ensures, c.if-not-is_ascii_lowercase.ensures.cases) }
