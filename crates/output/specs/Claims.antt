-- What is claimed of the output, each as the answer to a question. proofs/Claims.antt proves them.
use Rattle.std.specs.Prelude.{◌+◌, ◌^◌, ◌<◌, ◌≡◌, ◌∷◌, ◌++◌, Some}
use Rattle.bits.specs.Words.{ℕ, List, []}
use Rattle.reader.specs.Bytes.{newline}
use Rattle.reader.specs.Line.{first, others, number, fields}
use Rattle.reader.specs.declared.Fields.TheVariants.{Without, Three}
use Rattle.output.specs.Text.{decimal, next, row}

-- Is a number in the output the number that was meant? Yes: read as a field of a line it gives the number back.
abbrev pub DecimalRead : Type 0
DecimalRead = (n : ℕ) → n < 2 ^ 64 → number (decimal n) ≡ Some n

-- Do digits that are counted up show the next number? Yes.
abbrev pub CountedUp : Type 0
CountedUp = (n : ℕ) → n + 1 < 2 ^ 64 → next (decimal n) ≡ decimal (n + 1)

-- Does a row show which numbers it was made of? Yes: it is bytes with a newline behind them, and the bytes, parted at the
-- tabs, are three fields with the number, the answer and spent.
abbrev pub RowRead : Type 0
RowRead = (n a s : ℕ) → n < 2 ^ 64 → a < 2 ^ 64 → s < 2 ^ 64
    → (l : List ℕ) × (row n a s ≡ l ++ (newline ∷ [])) × (fields (first l ∷ others l) (Some Without) ≡ Some (Three n a s))
