-- The goals that are left.
use mathlib.Core.Path.{sym, ◌∙◌}
use Rattle.bits.proofs.Walk.{pick_start, pick_take, pick_pass, pick_end}
use Rattle.table.proofs.granted_among.Goals as goal

pub loop-o-preserved-then-overlap : goal.loop-o-preserved-then-overlap
loop-o-preserved-then-overlap c =
    let n = (c.in-Some.ensures).steps in
    pick_take c.loop-o.invariant n.0 n.1 n.2 (sym c.overlap.ensures ∙ c.if-overlap.true) c.with-found.ensures

pub loop-o-preserved : goal.loop-o-preserved
loop-o-preserved c =
    let n = (c.in-Some.ensures).steps in
    pick_pass c.loop-o.invariant n.0 n.1 n.2 (sym c.overlap.ensures ∙ c.if-overlap.false)

pub loop-o-init : goal.loop-o-init
loop-o-init c = rw (c.into_iter-o-iterator.ensures.into_iter_gives, c.of-o-items.ensures) (pick_start c.ranges.objects.fits)

pub returns : goal.returns
returns c = pick_end c.loop-o.invariant c.in-None.ensures.steps.0
