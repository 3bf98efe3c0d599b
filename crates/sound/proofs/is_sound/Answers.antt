-- `is_sound` meets its contract. Assumes nothing.
use mathlib.Core.Path.{sym, ◌∙◌}
use Rattle.bits.proofs.Truth.{true_and, false_and}
use Rattle.table.proofs.Table.{is_table_lem, not_table}
use Rattle.sound.specs.Answers.{is_sound}
use Rattle.sound.proofs.is_sound.Goals as goal

pub returns-in_default : goal.returns-in_default
unfolding is_sound
returns-in_default c = sym (false_and _ (not_table _ c.in_default.ensures.cases))

pub returns : goal.returns
unfolding is_sound
returns c =
    let whole = c.in-Some.ensures.cases in
    (rw whole.same at c.all_fits.ensures) ∙ sym (true_and _ (is_table_lem _ whole.long))
