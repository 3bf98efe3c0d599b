-- `serve_all` meets its contract: the blocks so far have led from the beginning to where it stands. Assumes nothing.
use Rattle.transcript.specs.Stream.{standing}
use Rattle.guard.specs.Block.{Reached}
use Rattle.guard.proofs.Program.serve_all.Given as goal

abbrev pub invariant-loop : goal.invariant-loop
invariant-loop l = Reached (standing l.self.progress l.self.kept)
