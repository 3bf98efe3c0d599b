-- `static_fit` meets its contract: no static set is in use, or each is asked. Assumes nothing.
use mathlib.Core.Path.{sym, ◌∙◌}
use Rattle.bits.proofs.Truth.{false_and}
use Rattle.table.specs.Authority.{covers}
use Rattle.table.specs.Reading.{state}
use Rattle.table.proofs.Answers.{covered_roles_are}
use Rattle.table.proofs.Table.{is_table_lem, not_table}
use Rattle.separation.specs.Answers.{static_fit_of}
use Rattle.separation.proofs.Sets.{static_fit_are, unused_fit, packed_fit}
use Rattle.separation.proofs.static_fit.Goals as goal

pub returns-in_default : goal.returns-in_default
unfolding static_fit_of
returns-in_default c = sym (false_and _ (not_table _ c.in_default.ensures.cases))

pub returns-then-words_empty : goal.returns-then-words_empty
returns-then-words_empty c =
    let a = c.args in
    c.if-words_empty.true
    ∙ sym (unused_fit a.t.now 0 (covers (state a.t.now) a.roles) (sym c.if-words_empty.ensures))
    ∙ static_fit_are _ c.in-Some.ensures.cases.long _

pub returns-else-words_empty : goal.returns-else-words_empty
returns-else-words_empty c =
    let whole = c.in-Some.ensures.cases in
    (rw whole.same at c.each_fits.ensures)
    ∙ packed_fit (state c.args.t.now) 0 _ _ (c.covered_roles.ensures ∙ sym (covered_roles_are _ _ (is_table_lem _ whole.long)))
    ∙ static_fit_are _ whole.long _
