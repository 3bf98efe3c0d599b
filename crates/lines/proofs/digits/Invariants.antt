-- `digits` meets its contract. Assumes nothing.
use Prim.Native.Nat.{◌+◌, ◌-◌, ◌^◌, ◌≤◌, ◌<◌}
use Rattle.lines.specs.Blocks.{DigitsGoOn}
use Rattle.lines.proofs.digits.Given as goal

abbrev pub invariant-loop-i : goal.invariant-loop-i
invariant-loop-i l = (l.at ≤ l.i) × (l.i ≤ l.at + 18) × (1 ≤ l.value) × (l.value < 10 ^ (l.i + 1 - l.at)) × DigitsGoOn l.block l.first l.at l.value l.i
