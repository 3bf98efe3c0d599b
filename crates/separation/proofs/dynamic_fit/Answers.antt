-- `dynamic_fit` meets its contract: no dynamic set is in use, or each is asked. Assumes nothing.
use mathlib.Core.Path.{sym, ◌∙◌}
use Rattle.bits.specs.Words.{has}
use Rattle.bits.proofs.Truth.{false_and}
use Rattle.table.proofs.Table.{not_table}
use Rattle.separation.specs.Answers.{dynamic_fit_of}
use Rattle.separation.proofs.Sets.{dynamic_fit_are, unused_fit}
use Rattle.separation.proofs.dynamic_fit.Goals as goal

pub returns-in_default : goal.returns-in_default
unfolding dynamic_fit_of
returns-in_default c = sym (false_and _ (not_table _ c.in_default.ensures.cases))

pub returns-then-words_empty : goal.returns-then-words_empty
returns-then-words_empty c =
    let a = c.args in
    c.if-words_empty.true
    ∙ sym (unused_fit a.t.now 16 (has a.roles) (sym c.if-words_empty.ensures))
    ∙ dynamic_fit_are _ c.in-Some.ensures.cases.long _

pub returns-else-words_empty : goal.returns-else-words_empty
returns-else-words_empty c =
    let whole = c.in-Some.ensures.cases in
    (rw whole.same at c.each_fits.ensures) ∙ dynamic_fit_are _ whole.long _
