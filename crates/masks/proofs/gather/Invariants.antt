-- `gather` meets its contract: the objects passed are noted, and the others are to come. Assumes nothing.
use Rattle.table.specs.Reading.{state}
use Rattle.masks.proofs.Gathering.{Gathering}
use Rattle.masks.proofs.gather.Given as goal

abbrev pub invariant-loop-o : goal.invariant-loop-o
invariant-loop-o l = Gathering (state l.t) l.x l.objects l.o-iterator.left
