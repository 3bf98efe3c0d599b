-- `letters` meets its contract. Assumes nothing.
use Prim.Native.Nat.{◌+◌, ◌-◌, ◌^◌, ◌≤◌, ◌<◌}
use Rattle.reader.specs.declared.Reader.TheVariants.{Letters}
use Rattle.lines.specs.Blocks.{GoesOn}
use Rattle.lines.proofs.letters.Given as goal

abbrev pub invariant-loop-i : goal.invariant-loop-i
invariant-loop-i l = (l.at ≤ l.i) × (l.i ≤ l.at + 8) × (l.value < 256 ^ (l.i - l.at)) × GoesOn l.block (Letters 0) l.at (Letters l.value) l.i
