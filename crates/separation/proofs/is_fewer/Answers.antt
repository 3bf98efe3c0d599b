-- `is_fewer` meets its contract. Assumes nothing.
use Prim.Native.Nat.{ℕ}
use mathlib.Core.Path.{sym, ap, ◌∙◌}
use lib.Dec.{ltb}
use borrow.Author.Tests.{eq-eqb}
use Rattle.bits.specs.Sets.{size}
use Rattle.table.proofs.Separation.{no_roles_fewer, some_roles_fewer}
use Rattle.separation.proofs.is_fewer.Goals as goal

pub returns-then-m-eq0 : goal.returns-then-m-eq0
returns-then-m-eq0 c = eq-eqb _ 0 c.if-m-eq0.true ∙ sym (no_roles_fewer _ _ _ c.if-m-eq0.true)

pub returns-else-m-eq0 : goal.returns-else-m-eq0
returns-else-m-eq0 c = ap (λ (n : ℕ). ltb n c.args.b) (c.size.ensures ∙ ap size c.meet.ensures) ∙ some_roles_fewer _ _ _ c.if-m-eq0.false
