-- `joined_rows` meets its contract: the objects of the roles passed are joined, and the others are to come. Assumes nothing.
use Rattle.masks.proofs.Joined.{JoiningRows}
use Rattle.masks.proofs.joined_rows.Given as goal

abbrev pub invariant-loop-role : goal.invariant-loop-role
invariant-loop-role l = JoiningRows l.objects l.roles l.words l.role-iterator.left
