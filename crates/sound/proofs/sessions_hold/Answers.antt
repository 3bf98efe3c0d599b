-- `sessions_hold` meets its contract. Assumes nothing.
use mathlib.Core.Path.{sym, ◌∙◌}
use Rattle.bits.proofs.Truth.{false_and}
use Rattle.table.proofs.Table.{not_table}
use Rattle.sound.specs.Answers.{sessions_within}
use Rattle.sound.proofs.Answers.{sessions_within_are}
use Rattle.sound.proofs.sessions_hold.Goals as goal

pub returns-in_default : goal.returns-in_default
unfolding sessions_within
returns-in_default c = sym (false_and _ (not_table _ c.in_default.ensures.cases))

pub returns : goal.returns
returns c =
    let whole = c.in-Some.ensures.cases in
    (rw whole.same at c.all_sessions_fit.ensures) ∙ sessions_within_are _ _ whole.long
