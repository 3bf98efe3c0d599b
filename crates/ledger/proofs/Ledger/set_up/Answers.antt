-- `set_up` meets its contract. Assumes nothing.
use Rattle.ledger.specs.Store.{with_table}
use Rattle.ledger.specs.Ledger.{shown}
use Rattle.ledger.specs.Step.{set_up_by}
use Rattle.ledger.proofs.Spending.{set_up_spends}
use Rattle.ledger.proofs.Lattice.{label_set_up_spends}
use Rattle.ledger.proofs.Lifting.{joined, lift}
use Rattle.ledger.proofs.Ledger.set_up.Goals as goal

pub returns-in-RoleMode-clause-made : goal.returns-in-RoleMode-clause-made
unfolding set_up_by
returns-in-RoleMode-clause-made c =
    let made = c.role_setup.ensures in
    rw c.in-RoleMode.is (lift (with_table (shown c.args.self.now)) (joined made.answer (set_up_spends _ _ _) made.table))

pub returns-in-LatticeMode-clause-made : goal.returns-in-LatticeMode-clause-made
unfolding set_up_by
returns-in-LatticeMode-clause-made c =
    let made = c.label_setup.ensures in
    rw c.in-LatticeMode.is (lift (with_table (shown c.args.self.now)) (joined made.answer (label_set_up_spends _ _ _) made.table))
