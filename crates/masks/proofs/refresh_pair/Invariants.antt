-- `refresh_pair` meets its contract: the sessions passed are done. Assumes nothing.
use mathlib.Core.Path.{◌≡◌}
use Rattle.table.specs.Reading.{state}
use Rattle.table.specs.Table.{encode}
use Rattle.masks.proofs.Refreshing.{pairing}
use Rattle.masks.proofs.refresh_pair.Given as goal

abbrev pub invariant-loop-s : goal.invariant-loop-s
invariant-loop-s l = l.table ≡ encode (pairing (state l.initial.table) l.x l.o l.s)
