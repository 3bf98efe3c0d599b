-- The claims of specs/Claims.antt. Assumes nothing.
use mathlib.Core.List.{◌∷◌, ◌++◌, append_assoc}
use native.Mathlib.Omega.{arith}
use Rattle.reader.specs.Bytes.{tab}
use Rattle.reader.proofs.Shown.{shown_number, fields_three}
use Rattle.output.specs.Text.{decimal, column, row_of, row}
use Rattle.output.specs.Claims.{DecimalRead, CountedUp, RowRead}
use Rattle.output.proofs.Counting.{decimal_next}
use Rattle.output.proofs.Reading.{text_shown}

pub decimal_read : DecimalRead
unfolding decimal
decimal_read n h = shown_number (text_shown _ n (omega arith) (omega arith)) h

pub counted_up : CountedUp
counted_up = decimal_next

pub row_read : RowRead
unfolding row row_of column
row_read n a s h i j = (
  decimal n ++ tab ∷ (decimal a ++ tab ∷ decimal s),
  simp append_assoc,
  fields_three _ _ _ (decimal_read n h) (decimal_read a i) (decimal_read s j),
)
