-- `put_column` meets its contract. Assumes nothing.
use native.Mathlib.Omega.{arith}
use mathlib.Core.Path.{refl}
use lib.ListN.{length-set}
use Rattle.output.specs.Text.{column}
use Rattle.output.proofs.Writing.{wrote_one, wrote_two, wrote_more, decimal_one, length_decimal}
use Rattle.output.proofs.put_column.Goals as goal

pub bounds-out-at-then-n-le9 : goal.bounds-out-at-then-n-le9
bounds-out-at-then-n-le9 c = simp length-set (omega arith)

pub returns-then-n-le9 : goal.returns-then-n-le9
unfolding column
returns-then-n-le9 c = rw (decimal_one _ c.if-n-le9.true) (wrote_two _ _ _ _ _ c.digit.ensures)

pub bounds-out-i : goal.bounds-out-i
bounds-out-i c =
    let put = c.put_decimal-i in
    omega (arith, put.auto.out, put.ensures.next_is, length_decimal c.args.n)

pub overflow_add-result-2 : goal.overflow_add-result-2
overflow_add-result-2 c =
    let put = c.put_decimal-i in
    omega (arith, put.auto.out, put.ensures.next_is, length_decimal c.args.n)

pub returns : goal.returns
unfolding column
returns c = wrote_more c.put_decimal-i.ensures (wrote_one _ _ _ _ refl)
