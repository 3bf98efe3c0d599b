-- `level_roles` meets its contract. Assumes nothing.
use Prim.Native.Nat.{ℕ, ◌+◌}
use mathlib.Core.Path.{ap, ◌∙◌}
use Rattle.bits.specs.Words.{◌with◌}
use Rattle.labels.proofs.level_roles.Goals as goal

pub returns : goal.returns
returns c = c.with-2.ensures ∙ ap (λ (w : ℕ). w with (32 + c.args.y)) c.with.ensures
