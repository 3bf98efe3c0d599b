-- The goal that is left.
use native.Mathlib.Omega.{arith}
use Rattle.lines.proofs.Going.{going, field_over}
use Rattle.lines.proofs.field.Goals as goal

pub returns-clause-goes : goal.returns-clause-goes
returns-clause-goes c =
    let got = c.digits-value in
    let w = c.in-Tab.w in
    let fs = c.in-Tab.fs in
    let read = got.ensures.goes w fs in
    let over = field_over c.args.block.now got.result.next (omega (arith, got.ensures.short)) (omega arith) w fs got.result.value in
    grind (arith, going)
