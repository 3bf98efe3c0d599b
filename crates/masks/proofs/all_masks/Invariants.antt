-- `all_masks` meets its contract: the objects of the modes passed are gathered, and then the masks of the sessions passed are
-- written. Assumes nothing.
use mathlib.Core.Path.{◌≡◌}
use Rattle.table.specs.Reading.{state}
use Rattle.masks.specs.Gathered.{gathered, Ready}
use Rattle.masks.proofs.all_masks.Given as goal

abbrev pub invariant-loop-x : goal.invariant-loop-x
invariant-loop-x l = l.objects ≡ gathered (state l.table) l.x

abbrev pub invariant-loop-s : goal.invariant-loop-s
invariant-loop-s l = Ready (state l.table) l.objects l.masks l.s
