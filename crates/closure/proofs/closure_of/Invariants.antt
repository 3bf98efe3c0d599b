-- `closure_of` meets its contract: each role with its direct juniors and itself, then by way of the roles passed. Assumes nothing.
use mathlib.Core.Path.{◌≡◌}
use lib.ListN.{get_or}
use Rattle.bits.specs.Words.{◌with◌, tabulate}
use Rattle.closure.specs.Closure.{through}
use Rattle.closure.proofs.closure_of.Given as goal

abbrev pub invariant-loop-k : goal.invariant-loop-k
invariant-loop-k l = l.rows ≡ through l.k (tabulate 64 (λ r. get_or l.direct r 0 with r))
