-- What is claimed of the line reader, each as the answer to a question. proofs/Claims.antt proves them.
use Rattle.std.specs.Prelude.{◌≡◌}
use Rattle.bits.specs.Words.{ℕ, List}
use Rattle.reader.specs.Bytes.{empty}
use Rattle.reader.specs.Line.{line}
use Rattle.reader.specs.Reader.{finished, steps, fresh}
use Rattle.reader.specs.declared.Reader.TheVariants.{Letters}

-- What does the reader answer at the newline? What the definition of a line says of the bytes before it.
abbrev pub LineRead : Type 0
LineRead = (l : List ℕ) → finished (steps (Letters 0) l) ≡ line l

-- Is the reader at a line's start only where no byte of it has been read? Yes.
abbrev pub FreshRead : Type 0
FreshRead = (l : List ℕ) → fresh (steps (Letters 0) l) ≡ empty l
