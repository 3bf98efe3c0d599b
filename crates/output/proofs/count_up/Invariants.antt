-- `count_up` meets its contract. The loop's invariant: the digits from i on were nines and are zeros. Assumes nothing.
use Rattle.output.proofs.Counting.{Carried}
use Rattle.output.proofs.count_up.Given as goal

abbrev pub invariant-loop-i : goal.invariant-loop-i
invariant-loop-i l = Carried l.initial.digits l.k l.i l.digits
