-- `senior_roles` meets its contract. Assumes nothing.
use mathlib.Core.Path.{◌∙◌}
use Rattle.table.proofs.Table.{is_table_lem, not_table}
use Rattle.table.proofs.Answers.{senior_roles_are, senior_roles_none}
use Rattle.table.proofs.senior_roles.Goals as goal

pub returns-in_default : goal.returns-in_default
returns-in_default c = senior_roles_none _ _ (not_table _ c.in_default.ensures.cases)

pub returns : goal.returns
returns c =
    let table = c.in-Some.ensures.cases in
    let e = rw table.same at c.meeting.ensures in
    e ∙ senior_roles_are _ _ (is_table_lem _ table.long)
