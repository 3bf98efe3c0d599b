-- `openings_within` meets its contract. Assumes nothing.
use mathlib.Core.Path.{sym, ◌∙◌}
use borrow.Author.Tests.{le-ltb}
use Rattle.bits.proofs.Truth.{false_and, and_false}
use Rattle.table.specs.Table.{is_table}
use Rattle.table.proofs.Table.{not_table}
use Rattle.sound.specs.Answers.{openings_within}
use Rattle.sound.proofs.Answers.{within_are}
use Rattle.sound.proofs.openings_within.Goals as goal

pub returns-in_default : goal.returns-in_default
unfolding openings_within
returns-in_default c = sym (false_and _ (not_table _ c.in_default.ensures.cases))

pub returns-then-s-lt32 : goal.returns-then-s-lt32
returns-then-s-lt32 c =
    let whole = c.in-Some.ensures.cases in
    (rw whole.same at c.holds_within.ensures) ∙ within_are _ _ _ whole.long c.if-s-lt32.true

pub returns-else-s-lt32 : goal.returns-else-s-lt32
unfolding openings_within
returns-else-s-lt32 c =
    let past = le-ltb c.args.s 32 c.if-s-lt32.false in
    past ∙ sym (and_false (is_table _) (false_and _ past))
