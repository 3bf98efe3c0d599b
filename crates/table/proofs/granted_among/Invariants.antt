-- `granted_among` meets its contract: of the objects passed those granted to the roles are picked, and the others are to come.
-- Assumes nothing.
use Rattle.bits.specs.Sets.{overlap}
use Rattle.bits.proofs.Walk.{Picking}
use Rattle.table.specs.Reading.{state}
use Rattle.table.proofs.granted_among.Given as goal

abbrev pub invariant-loop-o : goal.invariant-loop-o
invariant-loop-o l = Picking l.objects (λ o. overlap ((state l.t).granted l.x o) l.roles) l.o-iterator.left l.found
