-- `static_sets_hold` meets its contract: no static set is in use, or every user is asked. Assumes nothing.
use mathlib.Core.Path.{sym, ◌∙◌}
use Rattle.bits.proofs.Truth.{false_and}
use Rattle.bits.proofs.Below.{all_intro}
use Rattle.table.specs.Authority.{authorised}
use Rattle.table.specs.Reading.{state}
use Rattle.table.proofs.Table.{not_table}
use Rattle.separation.specs.Answers.{static_sets_of}
use Rattle.separation.proofs.Sets.{static_sets_are, unused_fit, users_is}
use Rattle.separation.proofs.static_sets_hold.Goals as goal

pub returns-in_default : goal.returns-in_default
unfolding static_sets_of
returns-in_default c = sym (false_and _ (not_table _ c.in_default.ensures.cases))

pub returns-then-words_empty : goal.returns-then-words_empty
returns-then-words_empty c =
    let t = c.args.t.now in
    c.if-words_empty.true
    ∙ sym (all_intro _ 64 (λ u h. unused_fit t 0 (authorised (state t) u) (sym c.if-words_empty.ensures)))
    ∙ users_is (state t)
    ∙ static_sets_are t c.in-Some.ensures.cases.long

pub returns-else-words_empty : goal.returns-else-words_empty
returns-else-words_empty c =
    let whole = c.in-Some.ensures.cases in
    (rw whole.same at c.users_separate.ensures) ∙ static_sets_are _ whole.long
