-- The goals that are left.
use Rattle.masks.proofs.Gathering.{gather_start, gather_step, gather_end}
use Rattle.masks.proofs.gather.Goals as goal

pub loop-o-preserved : goal.loop-o-preserved
loop-o-preserved c = let n = (c.in-Some.ensures).steps in gather_step c.loop-o.invariant n.0 n.1 n.2 c.note.ensures

pub loop-o-init : goal.loop-o-init
loop-o-init c = rw (c.into_iter-o-iterator.ensures.into_iter_gives, c.of-o-items.ensures) (gather_start c.requires.1 (c.fits-t _))

pub returns : goal.returns
returns c = gather_end c.loop-o.invariant c.in-None.ensures.steps.0
