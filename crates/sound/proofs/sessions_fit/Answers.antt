-- `sessions_fit` meets its contract. Assumes nothing.
use mathlib.Core.Path.{sym, ◌∙◌}
use borrow.Author.Tests.{le-ltb}
use Rattle.bits.proofs.Truth.{false_and, and_false}
use Rattle.table.specs.Table.{is_table}
use Rattle.table.proofs.Table.{not_table}
use Rattle.sound.specs.Answers.{sessions_of}
use Rattle.sound.proofs.Answers.{sessions_are}
use Rattle.sound.proofs.sessions_fit.Goals as goal

pub returns-in_default : goal.returns-in_default
unfolding sessions_of
returns-in_default c = sym (false_and _ (not_table _ c.in_default.ensures.cases))

pub returns-then-u-lt64 : goal.returns-then-u-lt64
returns-then-u-lt64 c =
    let whole = c.in-Some.ensures.cases in
    (rw whole.same at c.user_fits.ensures) ∙ sessions_are _ _ whole.long c.if-u-lt64.true

pub returns-else-u-lt64 : goal.returns-else-u-lt64
unfolding sessions_of
returns-else-u-lt64 c =
    let past = le-ltb c.args.u 64 c.if-u-lt64.false in
    past ∙ sym (and_false (is_table _) (false_and _ past))
