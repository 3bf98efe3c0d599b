-- `serve_all` meets its contract: the replies of the requests passed are written. Assumes nothing.
use Rattle.labels.specs.Guard.{image_step}
use Rattle.simulation.proofs.Listing.{Serving}
use Rattle.simulation.proofs.serve_all.Given as goal

abbrev pub invariant-loop-i : goal.invariant-loop-i
invariant-loop-i l = Serving image_step l.words l.initial.t l.t l.replies l.i
