-- `cleared_roles` meets its contract. Assumes nothing.
use Prim.Native.Nat.{ℕ}
use mathlib.Core.Path.{ap, ◌∙◌}
use Rattle.bits.specs.Words.{◌with◌}
use Rattle.image.specs.Image.{cleared_roles}
use Rattle.image.proofs.cleared_roles.Goals as goal

pub returns : goal.returns
unfolding cleared_roles
returns c = c.with-2.ensures ∙ ap (λ (w : ℕ). w with 32) c.with.ensures
