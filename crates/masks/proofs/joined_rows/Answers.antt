-- The goals that are left.
use Rattle.masks.proofs.Joined.{rows_start, rows_step, rows_end}
use Rattle.masks.proofs.joined_rows.Goals as goal

pub loop-role-preserved : goal.loop-role-preserved
loop-role-preserved c = let n = (c.in-Some.ensures).steps in rows_step c.loop-role.invariant n.0 n.1 n.2 c.with_row-words.ensures

pub loop-role-init : goal.loop-role-init
loop-role-init c = rw (c.into_iter-role-iterator.ensures.into_iter_gives, c.of-role-items.ensures) (rows_start c.ranges.roles.fits)

pub returns : goal.returns
returns c = rows_end c.loop-role.invariant c.in-None.ensures.steps.0
