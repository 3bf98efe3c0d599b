-- `covered_roles` meets its contract. Assumes nothing.
use mathlib.Core.Path.{◌∙◌}
use Rattle.table.proofs.Table.{is_table_lem, not_table}
use Rattle.table.proofs.Answers.{covered_roles_are, covered_roles_none}
use Rattle.table.proofs.covered_roles.Goals as goal

pub returns-in_default : goal.returns-in_default
returns-in_default c = covered_roles_none _ _ (not_table _ c.in_default.ensures.cases)

pub returns : goal.returns
returns c =
    let table = c.in-Some.ensures.cases in
    let e = rw table.same at c.juniors_of.ensures in
    e ∙ covered_roles_are _ _ (is_table_lem _ table.long)
