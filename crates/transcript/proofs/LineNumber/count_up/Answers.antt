-- `count_up` shows the next number. Assumes nothing.
use native.Mathlib.Omega.{arith}
use Rattle.output.proofs.Counting.{count_shown}
use Rattle.transcript.proofs.LineNumber.count_up.Goals as goal

pub invariant_of-self : goal.invariant_of-self
invariant_of-self c = record { shown = count_shown _ _ _ _ _ (omega arith) (omega arith) c.args.self.now.shown c.count_up-self.ensures }
