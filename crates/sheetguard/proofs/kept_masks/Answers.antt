-- The goals that are left.
use mathlib.Core.Path.{refl}
use Rattle.bits.proofs.Tabulate.{fill_start, fill_step, fill_end}
use Rattle.sheetguard.proofs.kept_masks.Goals as goal

pub loop-x-init : goal.loop-x-init
loop-x-init c = fill_start refl

pub loop-x-preserved : goal.loop-x-preserved
loop-x-preserved c = fill_step c.loop-x.invariant c.loop-x-test.true refl

pub returns : goal.returns
returns c = fill_end c.loop-x.invariant c.loop-x-test.false
