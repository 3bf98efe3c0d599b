-- `run` meets its contract. Assumes nothing.
use Rattle.ledger.specs.Step.{performed}
use Rattle.ledger.proofs.Lifting.{lift_run}
use Rattle.ledger.proofs.Ledger.run.Goals as goal

pub returns-clause-step : goal.returns-clause-step
unfolding performed
returns-clause-step c = lift_run _ _ _ c.phase_after-self.ensures c.set_up-answer.ensures.made
