-- `conclude` meets its contract. Assumes nothing.
use mathlib.Core.Path.{sym, ◌∙◌}
use native.Mathlib.Omega.{arith}
use Rattle.output.proofs.Writing.{wrote_no_row, wrote_within, length_row}
use Rattle.transcript.proofs.Serving.{closing_fresh, closing_begun}
use Rattle.transcript.proofs.Progress.conclude.Goals as goal

pub returns-then-is_fresh-clause-wrote : goal.returns-then-is_fresh-clause-wrote
returns-then-is_fresh-clause-wrote c = rw (closing_fresh _ _ (sym c.is_fresh.ensures ∙ c.if-is_fresh.true)) (wrote_no_row _ _)

pub returns-clause-wrote : goal.returns-clause-wrote
returns-clause-wrote c = rw (closing_begun _ _ (sym c.is_fresh.ensures ∙ c.if-is_fresh.false) c.fault_number.ensures) c.put_row.ensures

pub returns-clause-upper_bound : goal.returns-clause-upper_bound
returns-clause-upper_bound c = wrote_within _ _ _ _ _ (omega arith) (length_row _ _ 0) c.put_row.ensures
