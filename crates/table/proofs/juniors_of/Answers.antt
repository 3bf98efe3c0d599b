-- The goals that are left.
use Rattle.bits.proofs.Walk.{join_start, join_step, join_end}
use Rattle.table.specs.Authority.{covers}
use Rattle.table.proofs.juniors_of.Goals as goal

pub loop-role-preserved : goal.loop-role-preserved
loop-role-preserved c = let n = (c.in-Some.ensures).steps in join_step c.loop-role.invariant n.0 n.1 n.2 c.join-all.ensures

pub returns : goal.returns
unfolding covers
returns c = join_end c.loop-role.invariant c.in-None.ensures.steps.0

pub loop-role-init : goal.loop-role-init
loop-role-init c = rw (c.into_iter-role-iterator.ensures.into_iter_gives, c.of-role-items.ensures) (join_start c.ranges.roles.fits)
