-- `note` meets its contract: the object is noted at the roles passed, and the others are to come. Assumes nothing.
use Rattle.masks.proofs.Gathering.{Noting}
use Rattle.masks.proofs.note.Given as goal

abbrev pub invariant-loop-role : goal.invariant-loop-role
invariant-loop-role l = Noting l.x l.o l.initial.objects l.roles l.objects l.role-iterator.left
