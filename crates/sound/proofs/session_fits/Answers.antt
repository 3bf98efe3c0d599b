-- `session_fits` meets its contract. Assumes nothing.
use mathlib.Core.Path.{◌∙◌}
use Rattle.bits.proofs.Truth.{and_yes, and_no}
use Rattle.sound.specs.Tests.{session_fits}
use Rattle.sound.proofs.session_fits.Goals as goal

pub returns-then-roles_fit : goal.returns-then-roles_fit
unfolding session_fits
returns-then-roles_fit c = c.holds_within.ensures ∙ and_yes c.roles_fit.ensures c.if-roles_fit.true

pub returns-else-roles_fit : goal.returns-else-roles_fit
unfolding session_fits
returns-else-roles_fit c = and_no _ c.roles_fit.ensures c.if-roles_fit.false
