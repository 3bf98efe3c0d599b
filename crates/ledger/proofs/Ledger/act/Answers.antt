-- `act` meets its contract, by what is due. Assumes nothing.
use mathlib.Core.Path.{ap, ◌∙◌}
use Rattle.std.specs.Prelude.{Ok}
use Rattle.ledger.specs.Step.{performed}
use Rattle.ledger.proofs.Lifting.{lift_line}
use Rattle.ledger.proofs.Ledger.act.Goals as goal

pub returns-in-Err-clause-step : goal.returns-in-Err-clause-step
unfolding performed
returns-in-Err-clause-step c = lift_line _ _ c.due_of.ensures c.in-Err.is (rw c.fault_number.ensures)

pub returns-in-Ok-Choose-clause-step : goal.returns-in-Ok-Choose-clause-step
unfolding performed
returns-in-Ok-Choose-clause-step c = lift_line _ _ c.due_of.ensures (c.in-Ok-Choose.is ∙ ap Ok c.in-Ok-Choose.field-0-is) (rw (c.free.ensures.answer, c.free.ensures.spent))

pub returns-in-Ok-Put-clause-step : goal.returns-in-Ok-Put-clause-step
returns-in-Ok-Put-clause-step c = lift_line _ _ c.due_of.ensures (c.in-Ok-Put.is ∙ ap Ok c.in-Ok-Put.field-0-is) (rw (c.free-in-Ok-Put.ensures.answer, c.free-in-Ok-Put.ensures.spent) c.put.ensures.step)

pub returns-in-Ok-SetUp-clause-step : goal.returns-in-Ok-SetUp-clause-step
returns-in-Ok-SetUp-clause-step c = lift_line _ _ c.due_of.ensures (c.in-Ok-SetUp.is ∙ ap Ok c.in-Ok-SetUp.field-0-is) (rw (c.free-in-Ok-SetUp.ensures.answer, c.free-in-Ok-SetUp.ensures.spent) c.run.ensures.step)

pub returns-in-Ok-Request-clause-step : goal.returns-in-Ok-Request-clause-step
returns-in-Ok-Request-clause-step c = lift_line _ _ c.due_of.ensures (c.in-Ok-Request.is ∙ ap Ok c.in-Ok-Request.field-0-is) c.serve.ensures.step
