-- `serve_block` meets its contract: the bytes that are left lead where the whole block leads. Assumes nothing.
use mathlib.Core.Path.{◌≡◌}
use lib.ListN.{length}
use Rattle.ledger.specs.Step.{unguarded}
use Rattle.transcript.specs.Stream.{standing, after}
use Rattle.guard.proofs.Program.serve_block.Given as goal

abbrev pub invariant-loop-rest : goal.invariant-loop-rest
invariant-loop-rest l =
    after unguarded (standing l.self.progress l.self.kept) l.rest
    ≡ after unguarded (standing l.initial.self.progress l.initial.self.kept) l.block

abbrev pub decreases-loop-rest : goal.decreases-loop-rest
decreases-loop-rest l = length l.rest
