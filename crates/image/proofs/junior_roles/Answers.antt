-- The goals that are left.
use mathlib.Core.Path.{sym, ◌∙◌}
use native.Mathlib.Omega.{arith}
use Rattle.bits.proofs.Walk.{packing_start, packing_take, packing_pass, packing_end}
use Rattle.image.proofs.junior_roles.Goals as goal
use Rattle.image.proofs.junior_roles.Goals.{then-is_above, else-is_above}

pub loop-q-preserved : goal.loop-q-preserved
loop-q-preserved c =
    let k = c.loop-q.invariant in
    let h = c.loop-q-test.true in
    elim c.if-is_above.branch [
      | then-is_above w ↦ packing_take k h (omega arith) (sym c.is_above.ensures ∙ w.if-is_above.true) (w.found-is ∙ w.with-found.ensures)
      | else-is_above w ↦ packing_pass k h (sym c.is_above.ensures ∙ w.if-is_above.false) w.found-is
    ]

pub loop-q-init : goal.loop-q-init
loop-q-init c = packing_start

pub returns : goal.returns
returns c = packing_end c.loop-q.invariant c.loop-q-test.false
