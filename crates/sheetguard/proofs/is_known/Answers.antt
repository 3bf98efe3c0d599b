-- `is_known` meets its contract. Assumes nothing.
use mathlib.Core.Path.{sym}
use borrow.Author.Tests.{lt-ltb, le-ltb}
use Rattle.bits.proofs.Truth.{true_and, false_and}
use Rattle.sheetguard.proofs.is_known.Goals as goal

pub returns-then-limit-i : goal.returns-then-limit-i
returns-then-limit-i c = sym (false_and _ (le-ltb _ _ c.if-limit-i.true))

pub returns : goal.returns
returns c = sym (true_and _ (lt-ltb _ _ c.if-limit-i.false))
