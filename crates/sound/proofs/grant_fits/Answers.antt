-- `grant_fits` meets its contract. Assumes nothing.
use mathlib.Core.Path.{sym, ◌∙◌}
use borrow.Author.Tests.{eq-eqb, ne_eqb}
use Rattle.bits.proofs.Truth.{or_left, false_or}
use Rattle.sound.specs.Tests.{grant_fits}
use Rattle.sound.proofs.grant_fits.Goals as goal

pub returns-then-t-x-eq0 : goal.returns-then-t-x-eq0
unfolding grant_fits
returns-then-t-x-eq0 c =
    let none = eq-eqb _ 0 c.if-t-x-eq0.true in
    none ∙ sym (or_left _ none)

pub returns-else-t-x-eq0 : goal.returns-else-t-x-eq0
unfolding grant_fits
returns-else-t-x-eq0 c = c.has.ensures ∙ sym (false_or _ (ne_eqb _ 0 c.if-t-x-eq0.false))
