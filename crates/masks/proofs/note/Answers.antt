-- The goals that are left.
use Rattle.masks.proofs.Gathering.{note_start, note_step, note_end}
use Rattle.masks.proofs.note.Goals as goal

pub loop-role-preserved : goal.loop-role-preserved
loop-role-preserved c = let n = (c.in-Some.ensures).steps in note_step c.loop-role.invariant c.requires n.0 n.1 n.2 c.with.ensures

pub loop-role-init : goal.loop-role-init
loop-role-init c = rw (c.into_iter-role-iterator.ensures.into_iter_gives, c.of-role-items.ensures) (note_start c.ranges.roles.fits c.told-objects)

pub returns : goal.returns
returns c = note_end c.loop-role.invariant c.in-None.ensures.steps.0
