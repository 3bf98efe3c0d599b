-- `is_above` meets its contract. Assumes nothing.
use mathlib.Core.Path.{sym, ap, ◌∙◌}
use borrow.Author.Tests.{le-ltb, lt-leb}
use Rattle.machine.specs.Label.{equal_or_above}
use Rattle.image.proofs.Above.{above_reads, above_no_write, above_writes, above_no_read}
use Rattle.image.proofs.is_above.Goals as goal

pub returns-then-q-lt32 : goal.returns-then-q-lt32
returns-then-q-lt32 c = c.equal_or_above.ensures ∙ ap equal_or_above c.standing_of.ensures ∙ sym (above_reads c.if-r-lt32.true c.if-q-lt32.true)

pub returns-else-q-lt32 : goal.returns-else-q-lt32
returns-else-q-lt32 c = le-ltb _ 32 c.if-q-lt32.false ∙ sym (above_no_write c.if-r-lt32.true c.if-q-lt32.false)

pub returns-then-q-ge32 : goal.returns-then-q-ge32
returns-then-q-ge32 c = c.equal_or_above-then-q-ge32.ensures ∙ ap equal_or_above c.standing_of-then-q-ge32.ensures ∙ sym (above_writes c.if-r-lt32.false c.if-q-ge32.true)

pub returns-else-q-ge32 : goal.returns-else-q-ge32
returns-else-q-ge32 c = lt-leb 32 _ c.if-q-ge32.false ∙ sym (above_no_read c.if-r-lt32.false c.if-q-ge32.false)
