-- `new` shows the number. Assumes nothing.
use lib.Dec.{lit≤}
use Rattle.output.proofs.Counting.{number_shown}
use Rattle.transcript.proofs.LineNumber.new.Goals as goal

pub invariant_of-result : goal.invariant_of-result
invariant_of-result c = record { shown = number_shown _ _ _ _ (lit≤ tt) c.put_number-width.ensures }
