-- `serve` meets its contract. The loop's invariant: what the block comes to is what was read and written so far, and then what the
-- rest of it comes to from where the transcript stands. Assumes nothing.
use Prim.Native.Nat.{◌-◌}
use mathlib.Core.Bool.{true}
use lib.ListN.{length}
use Rattle.ledger.specs.Ledger.{shown, SameLists}
use Rattle.ledger.specs.Step.{unguarded}
use Rattle.transcript.specs.Stream.{standing, serving}
use Rattle.transcript.proofs.Far.{Far}
use Rattle.transcript.proofs.Progress.serve.Given as goal

abbrev pub invariant-loop-read : goal.invariant-loop-read
invariant-loop-read l = record {
  lists : SameLists l.initial.kept l.kept;
  far : Far unguarded (serving unguarded (length l.initial.out) true (standing l.initial.self l.initial.kept) l.block)
      l.initial.out (record { kept = shown l.kept; number = l.line.value; reader = l.self.reader }) l.block l.read l.out l.written;
}

abbrev pub decreases-loop-read : goal.decreases-loop-read
decreases-loop-read l = length l.block - l.read
