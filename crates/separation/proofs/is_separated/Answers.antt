-- `is_separated` meets its contract: no set is in use, or all three are asked in turn. Assumes nothing.
use mathlib.Core.Path.{sym, ◌≡◌, ◌∙◌}
use Rattle.bits.specs.Words.{◌and◌}
use Rattle.bits.proofs.Truth.{false_and, and_yes, and_no}
use Rattle.table.specs.Separation.{pairs_good, static_sets_hold}
use Rattle.table.specs.Reading.{state}
use Rattle.table.proofs.Separation.{empty_separated}
use Rattle.table.proofs.Table.{not_table}
use Rattle.separation.specs.Answers.{separated_of}
use Rattle.separation.proofs.Sets.{empty_state, separated_is, separated_are}
use Rattle.separation.proofs.is_separated.Goals as goal
use Rattle.separation.proofs.is_separated.Goals.{then-pairs_good, else-pairs_good}

pub returns-in_default : goal.returns-in_default
unfolding separated_of
returns-in_default c = sym (false_and _ (not_table _ c.in_default.ensures.cases))

pub returns-then-sets_empty : goal.returns-then-sets_empty
returns-then-sets_empty c =
    c.if-sets_empty.true ∙ sym (empty_separated _ (empty_state _ (sym c.if-sets_empty.ensures))) ∙ separated_are _ c.in-Some.ensures.cases.long

pub returns-then-users_separate : goal.returns-then-users_separate
returns-then-users_separate c =
    let S = state c.in-Some.table.now in
    let whole = c.in-Some.ensures.cases in
    let both : c.if-pairs_good.value ≡ pairs_good S and static_sets_hold S =
    elim c.if-pairs_good.branch [
      | then-pairs_good w ↦ w.value-is ∙ w.users_separate.ensures ∙ and_yes c.pairs_good.ensures w.if-pairs_good.true
      | else-pairs_good w ↦ w.value-is ∙ and_no _ c.pairs_good.ensures w.if-pairs_good.false
    ] in
    (rw whole.same at (c.sessions_separate.ensures ∙ and_yes both c.if-users_separate.true ∙ sym (separated_is S))) ∙ separated_are _ whole.long

pub returns-else-users_separate : goal.returns-else-users_separate
returns-else-users_separate c =
    let S = state c.in-Some.table.now in
    let whole = c.in-Some.ensures.cases in
    let both : c.if-pairs_good.value ≡ pairs_good S and static_sets_hold S =
    elim c.if-pairs_good.branch [
      | then-pairs_good w ↦ w.value-is ∙ w.users_separate.ensures ∙ and_yes c.pairs_good.ensures w.if-pairs_good.true
      | else-pairs_good w ↦ w.value-is ∙ and_no _ c.pairs_good.ensures w.if-pairs_good.false
    ] in
    (rw whole.same at (and_no _ both c.if-users_separate.false ∙ sym (separated_is S))) ∙ separated_are _ whole.long
