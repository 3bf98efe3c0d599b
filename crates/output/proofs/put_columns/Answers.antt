-- `put_columns` meets its contract. Assumes nothing.
use mathlib.Core.Path.{refl}
use native.Mathlib.Omega.{arith}
use lib.ListN.{length-set}
use Rattle.output.specs.Text.{row_of}
use Rattle.output.proofs.Writing.{wrote_one, wrote_more, length_column}
use Rattle.output.proofs.put_columns.Goals as goal

pub put_column-requires : goal.put_column-requires
put_column-requires c =
    let first = c.put_column-next in
    omega (arith, simp length-set at first.auto.out, first.ensures.next_is, length_column c.args.answer 9)

pub returns : goal.returns
unfolding row_of
returns c =
    let digits = wrote_more (record { result_is = c.put_digits.ensures; next_is = refl }) (wrote_one _ _ _ _ refl) in
    wrote_more (wrote_more digits c.put_column-next.ensures) c.put_column.ensures
