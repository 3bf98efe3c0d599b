-- `kept_masks` meets its contract: the modes passed are filled. Assumes nothing.
use Rattle.bits.proofs.Tabulate.{Filling}
use Rattle.table.specs.Reading.{state}
use Rattle.sheetguard.proofs.kept_masks.Given as goal

abbrev pub invariant-loop-x : goal.invariant-loop-x
invariant-loop-x l = Filling ((state l.table).masks l.s) 8 l.masks l.x
