-- `giving` meets its contract. Assumes nothing.
use mathlib.Core.Path.{sym, ◌∙◌}
use Rattle.masks.proofs.Refreshing.{giving_none, giving_are}
use Rattle.masks.proofs.giving.Goals as goal

pub returns-then-has : goal.returns-then-has
returns-then-has c = let a = c.args in c.senior_roles.ensures ∙ giving_are a.t.now a.x a.o c.told-t (sym c.has.ensures ∙ c.if-has.true)

pub returns-else-has : goal.returns-else-has
returns-else-has c = let a = c.args in giving_none a.t.now a.x a.o (sym c.has.ensures ∙ c.if-has.false)
