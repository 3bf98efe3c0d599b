-- `put_number` meets its contract. Assumes nothing.
use native.Mathlib.Omega.{arith}
use Rattle.output.proofs.Writing.{wrote_holding, wrote_unheld}
use Rattle.output.proofs.put_number.Goals as goal

pub returns-then-digits-lt20 : goal.returns-then-digits-lt20
returns-then-digits-lt20 c = wrote_unheld _ _ _ _ (omega arith)

pub returns : goal.returns
returns c = wrote_holding _ _ _ _ (omega arith) c.put_decimal.ensures
