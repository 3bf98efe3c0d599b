-- `put_row` meets its contract. Assumes nothing.
use native.Mathlib.Omega.{arith}
use Rattle.output.proofs.Counting.{row_numbered}
use Rattle.transcript.proofs.LineNumber.put_row.Goals as goal

pub returns : goal.returns
returns c =
    let line = c.args.self.now in
    rw (row_numbered line.digits line.value line.width c.args.answer c.args.spent (omega arith) line.shown) at c.put_numbered.ensures
