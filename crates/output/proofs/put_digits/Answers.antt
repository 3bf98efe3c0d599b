-- `put_digits` meets its contract. Assumes nothing.
use native.Mathlib.Omega.{arith}
use Rattle.output.proofs.Writing.{sets_both}
use Rattle.output.proofs.put_digits.Goals as goal

pub returns-then-k-le8 : goal.returns-then-k-le8
returns-then-k-le8 c =
    rw (c.put_bytes-then-k-le8.ensures, c.put_bytes.ensures)
    (sets_both _ c.args.digits.now _ 4 _ _ (omega arith) (omega arith) (omega arith))
