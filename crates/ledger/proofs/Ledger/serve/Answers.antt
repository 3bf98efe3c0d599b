-- `serve` meets its contract. Assumes nothing.
use mathlib.Core.Path.{◌∙◌}
use Rattle.ledger.specs.Ledger.{shown}
use Rattle.ledger.specs.Store.{with_table}
use Rattle.ledger.specs.Step.{performed, asked, unguarded}
use Rattle.ledger.proofs.Spending.{refused_role, answered_role}
use Rattle.ledger.proofs.Lifting.{joined, lift}
use Rattle.ledger.proofs.Ledger.serve.Goals.{in-Ok, in-Err}
use Rattle.ledger.proofs.Ledger.serve.Goals as goal

pub returns-after-answer-clause-step : goal.returns-after-answer-clause-step
unfolding performed asked unguarded
returns-after-answer-clause-step c =
    let served = c.serve-answer.ensures in
    rw c.in-RoleMode.is
    (lift
    (with_table (shown c.args.self.now))
    (joined
    (c.number.ensures ∙ served.answer)
    (elim c.match-answer.branch [
      | in-Err w ↦ w.spent-is ∙ refused_role _ _ _ served.answer _ w.in-Err.is
      | in-Ok w ↦ w.spent-is ∙ answered_role _ _ _ served.answer _ w.in-Ok.is
    ])
    served.table))

pub returns-in-LatticeMode-clause-step : goal.returns-in-LatticeMode-clause-step
unfolding performed asked unguarded
returns-in-LatticeMode-clause-step c =
    let served = c.serve-answer-in-LatticeMode.ensures in
    rw c.in-LatticeMode.is (lift (with_table (shown c.args.self.now)) (joined (c.number-in-LatticeMode.ensures ∙ served.answer) served.spent served.table))
