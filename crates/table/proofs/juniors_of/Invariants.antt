-- `juniors_of` meets its contract: the juniors of the roles passed are gathered, and the others are to come. Assumes nothing.
use Rattle.bits.proofs.Walk.{Joining}
use Rattle.table.specs.Reading.{state}
use Rattle.table.proofs.juniors_of.Given as goal

abbrev pub invariant-loop-role : goal.invariant-loop-role
invariant-loop-role l = Joining l.roles (state l.t).juniors l.role-iterator.left l.all
