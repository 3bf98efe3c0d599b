-- `words_empty` meets its contract: the words passed are joined. Assumes nothing.
use Prim.Native.Nat.{◌+◌}
use Rattle.table.specs.Reading.{word}
use Rattle.table.proofs.Gathering.{Gathering}
use Rattle.table.proofs.words_empty.Given as goal

abbrev pub invariant-loop-i : goal.invariant-loop-i
invariant-loop-i l = Gathering (λ k. word l.t (l.at + k)) l.n l.words l.i
