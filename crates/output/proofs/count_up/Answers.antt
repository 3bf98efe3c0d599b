-- The goals that are left.
use native.Mathlib.Omega.{arith}
use Rattle.output.proofs.Writing.{wrote_holding, wrote_unheld}
use Rattle.output.proofs.Counting.{carried_more, carried_stop, carried_end}
use Rattle.output.proofs.count_up.Goals as goal

pub returns-then-digits-k : goal.returns-then-digits-k
returns-then-digits-k c = wrote_unheld _ _ _ _ (omega arith)

pub returns-then-digits-i-lt57 : goal.returns-then-digits-i-lt57
returns-then-digits-i-lt57 c = wrote_holding _ _ _ _ (omega arith) (carried_stop (omega arith) c.loop-i.invariant (omega arith) (omega arith))

pub loop-i-preserved : goal.loop-i-preserved
loop-i-preserved c = carried_more (omega arith) c.loop-i.invariant (omega arith) (omega arith)

pub returns : goal.returns
returns c = wrote_holding _ _ _ _ (omega arith) (carried_end (omega arith) c.loop-i.invariant (omega arith))
