-- `pair_holds` meets its contract. Assumes nothing.
use mathlib.Core.Path.{sym, ◌∙◌}
use native.Mathlib.Omega.{arith}
use borrow.Author.Tests.{lt-ltb, le-ltb}
use Rattle.bits.proofs.Truth.{false_and, and_false, if_true, if_false}
use Rattle.table.specs.Table.{is_table}
use Rattle.table.proofs.Table.{not_table}
use Rattle.separation.specs.Answers.{pair_holds, pair_holds_of}
use Rattle.separation.proofs.Sets.{pair_holds_are}
use Rattle.separation.proofs.pair_holds.Goals as goal

pub returns-in_default : goal.returns-in_default
unfolding pair_holds_of
returns-in_default c = sym (false_and _ (not_table _ c.in_default.ensures.cases))

pub returns-in-0-to-15 : goal.returns-in-0-to-15
unfolding pair_holds
returns-in-0-to-15 c =
    let whole = c.in-Some.ensures.cases in
    (rw whole.same at c.static_holds.ensures)
    ∙ sym (if_true _ _ (lt-ltb c.args.n 16 (omega arith)))
    ∙ pair_holds_are _ whole.long _ _ _ (omega arith)

pub returns-in-16-to-31 : goal.returns-in-16-to-31
unfolding pair_holds
returns-in-16-to-31 c =
    let whole = c.in-Some.ensures.cases in
    (rw whole.same at c.dynamic_holds.ensures)
    ∙ sym (if_false _ _ (le-ltb c.args.n 16 (omega arith)))
    ∙ pair_holds_are _ whole.long _ _ _ (omega arith)

pub returns-in_default-n : goal.returns-in_default-n
unfolding pair_holds_of
returns-in_default-n c = sym (and_false (is_table _) (false_and _ (le-ltb c.args.n 32 (omega arith))))
