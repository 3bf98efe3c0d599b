-- `authorised_roles` meets its contract. Assumes nothing.
use mathlib.Core.Path.{◌∙◌}
use native.Mathlib.Omega.{arith}
use Rattle.table.specs.Authority.{authorised}
use Rattle.table.proofs.Table.{in_table, short_table, past_table}
use Rattle.table.proofs.Answers.{authorised_roles_none, authorised_roles_are}
use Rattle.table.proofs.authorised_roles.Goals as goal

pub returns-in_default : goal.returns-in_default
returns-in_default c = authorised_roles_none _ _ (short_table _ _ _ c.in_default.ensures.cases)

pub returns-then-u-gt63 : goal.returns-then-u-gt63
returns-then-u-gt63 c = authorised_roles_none _ _ (past_table _ _ _ c.if-u-gt63.true)

pub returns : goal.returns
unfolding authorised
returns c =
    let table = c.in-Some.ensures.cases in
    let e = rw table.same at c.juniors_of.ensures in
    e ∙ authorised_roles_are _ _ (in_table _ _ _ table.long (omega arith))
