-- `pass_through` meets its contract: nothing is to hand on, or the rows passed have what k has. Assumes nothing.
use Prim.Native.Nat.{◌≤◌}
use Rattle.bits.proofs.Tabulate.{Writing}
use Rattle.closure.proofs.Closure.{passed}
use Rattle.closure.proofs.pass_through.Given as goal

abbrev pub invariant-loop-row : goal.invariant-loop-row
invariant-loop-row l = Writing (passed l.initial.rows l.k) 0 l.initial.rows l.rows l.row-index × (l.row-index ≤ 64)
