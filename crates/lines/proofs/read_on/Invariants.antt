-- `read_on` meets its contract. Assumes nothing.
use mathlib.Core.Path.{◌≡◌}
use lib.ListN.{drop}
use Rattle.lines.specs.Blocks.{fed}
use Rattle.lines.proofs.read_on.Given as goal

abbrev pub invariant-loop-i : goal.invariant-loop-i
invariant-loop-i l = fed l.reader (drop l.i l.block) l.i ≡ fed l.initial.reader (drop l.at l.block) l.at
