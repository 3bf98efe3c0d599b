-- `junior_roles` meets its contract: the roles passed that r is above are packed. Assumes nothing.
use Rattle.bits.proofs.Walk.{Packing}
use Rattle.image.specs.Image.{above}
use Rattle.image.proofs.junior_roles.Given as goal

abbrev pub invariant-loop-q : goal.invariant-loop-q
invariant-loop-q l = Packing (above l.r) 64 l.q l.found
