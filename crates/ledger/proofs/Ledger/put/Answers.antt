-- `put` meets its contract, by the list that the line changes. Assumes nothing.
use Rattle.ledger.specs.Store.{store}
use Rattle.ledger.specs.Step.{put, performed}
use Rattle.ledger.proofs.Lifting.{lift}
use Rattle.ledger.proofs.Ledger.put.Goals as goal

pub returns-in-Juniors-clause-step : goal.returns-in-Juniors-clause-step
unfolding performed put
returns-in-Juniors-clause-step c = rw c.in-Juniors.is (lift (λ l. store _ _ l _ _ _) c.add_member.ensures)

pub returns-in-Permissions-clause-step : goal.returns-in-Permissions-clause-step
unfolding performed put
returns-in-Permissions-clause-step c = rw c.in-Permissions.is (lift (λ l. store _ _ _ l _ _) c.add_member-in-Permissions.ensures)

pub returns-in-Clearances-clause-step : goal.returns-in-Clearances-clause-step
unfolding performed put
returns-in-Clearances-clause-step c = rw c.in-Clearances.is (lift (λ l. store _ _ _ _ l _) c.store_label.ensures)

pub returns-in-Labels-clause-step : goal.returns-in-Labels-clause-step
unfolding performed put
returns-in-Labels-clause-step c = rw c.in-Labels.is (lift (λ l. store _ _ _ _ _ l) c.store_label-in-Labels.ensures)
