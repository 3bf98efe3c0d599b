-- `are_labels` meets its contract. Assumes nothing.
use mathlib.Core.Path.{sym}
use borrow.Author.Tests.{lt-ltb, le-ltb}
use Rattle.bits.proofs.Truth.{true_and, false_and}
use Rattle.sheetguard.proofs.are_labels.Goals as goal

pub returns-then-first-ge32 : goal.returns-then-first-ge32
returns-then-first-ge32 c = sym (false_and _ (le-ltb _ _ c.if-first-ge32.true))

pub returns : goal.returns
returns c = sym (true_and _ (lt-ltb _ _ c.if-first-ge32.false))
