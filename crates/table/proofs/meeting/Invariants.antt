-- `meeting` meets its contract: the places passed are packed, from the last one down. Assumes nothing.
use Prim.Native.Nat.{◌+◌}
use Rattle.bits.specs.Sets.{overlap}
use Rattle.bits.proofs.Walk.{Stacking}
use Rattle.table.specs.Reading.{word}
use Rattle.table.proofs.meeting.Given as goal

abbrev pub invariant-loop-i : goal.invariant-loop-i
invariant-loop-i l = Stacking (λ i. overlap (word l.t (l.at + i)) l.set) 64 l.i l.found
