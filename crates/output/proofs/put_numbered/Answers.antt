-- `put_numbered` meets its contract. Assumes nothing.
use native.Mathlib.Omega.{arith}
use Rattle.output.proofs.Writing.{wrote_fitting, wrote_none, numbered_there}
use Rattle.output.proofs.put_numbered.Goals as goal

pub returns-then-saturating_sub-lt-ROW : goal.returns-then-saturating_sub-lt-ROW
returns-then-saturating_sub-lt-ROW c = wrote_none _ _ _ _ _ _ (λ r n d. omega (arith, c.then-saturating_sub-lt-ROW.either))

pub returns : goal.returns
returns c =
    rw (numbered_there _ _ _ _ c.if-k-gt20.false c.if-digits-k.false)
    (wrote_fitting _ _ _ (omega arith) c.put_columns.ensures)
