-- `put_row` meets its contract. Assumes nothing.
use mathlib.Core.Path.{sym}
use native.Mathlib.Nat.{le_of_eq}
use lib.Dec.{lit≤}
use Rattle.output.proofs.Counting.{number_shown, row_numbered}
use Rattle.output.proofs.put_row.Goals as goal

pub returns : goal.returns
returns c =
    let a = c.args in
    let first = c.put_number-k in
    let shown = number_shown _ first.new.digits a.number first.result (lit≤ tt) first.ensures in
    let row_is = row_numbered first.new.digits a.number first.result a.answer a.spent (le_of_eq (sym first.auto.digits)) shown in
    rw row_is at c.put_numbered.ensures
