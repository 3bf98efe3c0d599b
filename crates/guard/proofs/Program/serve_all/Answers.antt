-- The goals that are left.
use Rattle.guard.proofs.Leading.{reached_none, reached_on}
use Rattle.guard.proofs.Program.serve_all.Goals as goal

pub loop-init : goal.loop-init
loop-init c = reached_none c.requires

pub loop-preserved : goal.loop-preserved
loop-preserved c = reached_on _ c.loop.invariant c.in_ok-serve_block.ensures
