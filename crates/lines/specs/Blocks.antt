-- Lines read from blocks of input: what comes of bytes from a place on, a byte at a time. The code reads a usual line faster, to
-- the same end.
use Rattle.bits.specs.Words.{ℕ, true, false, List, [], eqb, when◌then◌else◌}
use Rattle.std.specs.Prelude.{drop, ◌+◌, ◌≡◌, ◌∷◌}
use Rattle.reader.specs.Bytes.{newline}
use Rattle.reader.specs.Reader.{step_of}
use Rattle.reader.specs.declared.Word.{Word}
use Rattle.reader.specs.declared.Fields.{Fields}
use Rattle.reader.specs.declared.Reader.{Reader}
use Rattle.reader.specs.declared.Reader.TheVariants.{Digits}
use Rattle.lines.specs.declared.Fed.{Fed}

-- bytes from a place of a block on: the line is whole at the first newline, or the block is used up
unfoldable pub fed : Reader → List ℕ → ℕ → Fed
fed s [] at = record { whole = false; reader = s; next = at }
fed s (b ∷ l) at = when eqb b newline then record { whole = true; reader = s; next = at + 1 } else fed (step_of s b) l (at + 1)

-- ---- for the functions that read a usual line

-- the reader that stands at a place of a block as s goes on from another place as t: what comes of the block is the same
abbrev pub GoesOn : List ℕ → Reader → ℕ → Reader → ℕ → Type 0
GoesOn block s at t next = fed s (drop at block) at ≡ fed t (drop next block) next

-- the same in a field, whatever the word and the fields before it: digits that are worth v, and those that are worth v'
abbrev pub DigitsGoOn : List ℕ → ℕ → ℕ → ℕ → ℕ → Type 0
DigitsGoOn block v at v' next = (w : Word) (fs : Fields) → GoesOn block (Digits w fs v) at (Digits w fs v') next
