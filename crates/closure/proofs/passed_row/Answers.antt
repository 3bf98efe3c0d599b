-- `passed_row` meets its contract. Assumes nothing.
use mathlib.Core.Path.{sym, ◌∙◌}
use Rattle.bits.proofs.Truth.{if_true, if_false}
use Rattle.closure.proofs.passed_row.Goals as goal

pub returns-then-has : goal.returns-then-has
returns-then-has c = c.join.ensures ∙ sym (if_true _ _ (sym c.has.ensures ∙ c.if-has.true))

pub returns-else-has : goal.returns-else-has
returns-else-has c = sym (if_false _ _ (sym c.has.ensures ∙ c.if-has.false))
