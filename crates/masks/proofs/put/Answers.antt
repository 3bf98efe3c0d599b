-- `put` meets its contract. Assumes nothing.
use mathlib.Core.Path.{sym, ◌∙◌}
use Rattle.bits.proofs.Truth.{if_true, if_false}
use Rattle.table.specs.Masks.{put}
use Rattle.masks.proofs.put.Goals as goal

pub returns-then-b : goal.returns-then-b
unfolding put
returns-then-b c = c.with.ensures ∙ sym (if_true _ _ c.if-b.true)

pub returns-else-b : goal.returns-else-b
unfolding put
returns-else-b c = c.without.ensures ∙ sym (if_false _ _ c.if-b.false)
