-- `within` meets its contract. Assumes nothing.
use mathlib.Core.Path.{sym, ◌∙◌}
use borrow.Author.Tests.{le-leb, lt-leb}
use Rattle.requests.specs.Request.{within}
use Rattle.bits.proofs.Truth.{true_and, false_and, and_false}
use Rattle.requests.proofs.within.Goals as goal

pub returns-then-largest-a : goal.returns-then-largest-a
unfolding within
returns-then-largest-a c = sym (false_and _ (lt-leb _ _ c.if-largest-a.true))

pub returns-then-largest-b : goal.returns-then-largest-b
unfolding within
returns-then-largest-b c = sym (and_false _ (false_and _ (lt-leb _ _ c.if-largest-b.true)))

pub returns : goal.returns
unfolding within
returns c = sym (true_and _ (le-leb _ _ c.if-largest-a.false) ∙ true_and _ (le-leb _ _ c.if-largest-b.false))
