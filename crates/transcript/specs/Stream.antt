-- A transcript byte by byte: where it stands behind each byte, and what each byte makes it write. Claims says that this is
-- what Document says of the whole input.
use Rattle.std.specs.Prelude.{◌+◌, ◌-◌, ◌^◌, ◌≤◌, ◌≡◌, ◌∷◌, ◌++◌}
use Rattle.bits.specs.Words.{ℕ, Bool, true, false, List, [], eqb, ltb, length, ◌and◌, ◌or◌, when◌then◌else◌}
use Rattle.std.proofs.lemmas.List.Edits.{sets}
use Rattle.reader.specs.Bytes.{newline}
use Rattle.reader.specs.Reader.{step_of, finished, fresh}
use Rattle.reader.specs.declared.Reader.{Reader}
use Rattle.reader.specs.declared.Reader.TheVariants.{Letters}
use Rattle.output.specs.Text.{row, row_room}
use Rattle.entries.specs.declared.Fault.TheVariants.{WrongForm}
use Rattle.entries.specs.Words.{fault_number}
use Rattle.transcript.specs.declared.Progress.{Progress}
use Rattle.ledger.specs.Store.{Store}
use Rattle.ledger.specs.declared.Ledger.{Ledger}
use Rattle.ledger.specs.Ledger.{shown}
use Rattle.ledger.specs.Step.{Guards, step}

-- where a transcript stands: what it keeps, the number of the line that is being read, and its reader
pub record Standing : Type 0 where
  pub kept : Store
  pub number : ℕ
  pub reader : Reader

-- the same as the code keeps it
abbrev pub standing : Progress → Ledger → Standing
standing p l = record { kept = shown l; number = p.number; reader = p.reader }

-- before the first byte
abbrev pub started : Progress
started = record { number = 1; reader = Letters 0 }

-- with another reader
abbrev pub reading : Standing → Reader → Standing
reading p s = record { kept = p.kept; number = p.number; reader = s }

-- behind a line that ends where the reader is s
abbrev pub replied : Guards → Standing → Reader → Standing
replied G p s = record { kept = (step G p.kept (finished s)).state; number = p.number + 1; reader = Letters 0 }

-- what that line makes it write
abbrev pub reply : Guards → Standing → Reader → List ℕ
reply G p s = row p.number (step G p.kept (finished s)).answer (step G p.kept (finished s)).spent

-- where the transcript stands behind bytes
unfoldable pub after : Guards → Standing → List ℕ → Standing
after G p [] = p
after G p (b ∷ l) = after G (when eqb b newline then replied G p p.reader else reading p (step_of p.reader b)) l

-- what bytes make it write
unfoldable pub emitted : Guards → Standing → List ℕ → List ℕ
emitted G p [] = []
emitted G p (b ∷ l) =
    when eqb b newline then reply G p p.reader ++ emitted G (replied G p p.reader) l else
    emitted G (reading p (step_of p.reader b)) l

-- what is written at the end of the input: a line without its newline is refused
unfoldable pub closing : ℕ → Reader → List ℕ
closing number s = when fresh s then [] else row number (fault_number WrongForm) 0

-- ---- a block

-- how far a block was served: where the transcript stands, the bytes read, and those written
pub record Stop : Type 0 where
  pub stands : Standing
  pub read : ℕ
  pub wrote : List ℕ

-- at once
abbrev pub halt : Standing → Stop
halt p = record { stands = p; read = 0; wrote = [] }

-- behind k bytes more that were read, and w that were written
abbrev pub ahead : ℕ → List ℕ → Stop → Stop
ahead k w s = record { stands = s.stands; read = k + s.read; wrote = w ++ s.wrote }

-- no line can be answered: there is no room for a row, or the line numbers are used up
unfoldable pub full : ℕ → ℕ → Bool
full room number = ltb room row_room or eqb number (2 ^ 64 - 1)

-- a block served with room for so many bytes of output, to its end or to where no line can be answered: this is looked at
-- at the start of the block and behind each newline
unfoldable pub serving : Guards → ℕ → Bool → Standing → List ℕ → Stop
serving G room between p [] = halt p
serving G room between p (b ∷ l) =
    when between and full room p.number then halt p else
    when eqb b newline then ahead 1 (reply G p p.reader) (serving G (room - length (reply G p p.reader)) true (replied G p p.reader) l) else
    ahead 1 [] (serving G room false (reading p (step_of p.reader b)) l)

-- q, the bytes read and written, and out' are those of a block that was served; read is a place of it, and written one of out'
pub record IsServed (stop : Stop) (block out : List ℕ) (q : Standing) (read written : ℕ) (out' : List ℕ) : Type 0 where
  pub stands_is : q ≡ stop.stands
  pub read_is : read ≡ stop.read
  pub written_is : written ≡ length stop.wrote
  pub out_is : out' ≡ sets out 0 stop.wrote
  pub read_within : read ≤ length block
  pub written_within : written ≤ length out'
