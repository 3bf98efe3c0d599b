-- What is claimed of transcripts, each as the answer to a question. proofs/Claims.antt proves them.
use Rattle.std.specs.Prelude.{◌≤◌, drop, ◌-◌, ◌^◌, ◌<◌, ◌≡◌, ◌∷◌, ◌++◌}
use Rattle.bits.specs.Words.{ℕ, true, List, [], Memᴰ}
use Rattle.table.specs.Table.{is_table}
use Rattle.output.specs.Text.{header, row_room}
use Rattle.reader.specs.declared.Reader.TheVariants.{Letters}
use Rattle.ledger.specs.Step.{unguarded}
use Rattle.ledger.specs.Claims.{StoreSound, shows}
use Rattle.transcript.specs.Stream.{Standing, after, emitted, closing, serving}
use Rattle.transcript.specs.Document.{Result, blank, replies, output}

-- before the first byte, with a table
abbrev pub begun : List ℕ → Standing
begun table = record { kept = blank table; number = 1; reader = Letters 0 }

-- Is what is written a function of what is read alone? Yes, of the input l and not of the words that the lent table held
-- before: the header, what each byte makes the program write, and what the end of the input does, is what Document says by the
-- guards of 01.
abbrev pub OutputIs : Type 0
OutputIs =
    (table l : List ℕ) → is_table table ≡ true
    → header ++ emitted unguarded (begun table) l ++ closing (after unguarded (begun table) l).number (after unguarded (begun table) l).reader
    ≡ output l

-- Calls of `serve`, one after the other: each takes a block, with room for so many bytes of output, that begins with what
-- the last one left; more is the input behind it. The bytes that the calls wrote are written in order, and q is where the
-- last one stands.
pub data Calls : Standing → List ℕ → List ℕ → Standing → Type 0 where
  none : (p : Standing) → Calls p [] [] p
  call : {p q : Standing} {written : List ℕ} (block more : List ℕ) (room : ℕ)
      → Calls (serving unguarded room true p block).stands (drop (serving unguarded room true p block).read block ++ more) written q
      → Calls p (block ++ more) ((serving unguarded room true p block).wrote ++ written) q

-- Does a call get on? With a byte to read, room for a row and a line number that is not the last one it reads at least one byte, so
-- that calls with room use an input up.
abbrev pub GetsOn : Type 0
GetsOn =
    (room : ℕ) (p : Standing) (b : ℕ) (block : List ℕ) → row_room ≤ room → p.number < 2 ^ 64 - 1
    → 1 ≤ (serving unguarded room true p (b ∷ block)).read

-- Does it matter in what blocks input and output go? No: whatever the blocks and the lent table, the bytes written are the
-- output.
abbrev pub BlocksDoNotMatter : Type 0
BlocksDoNotMatter =
    (table l written : List ℕ) (q : Standing) → is_table table ≡ true → Calls (begun table) l written q
    → header ++ written ++ closing q.number q.reader ≡ output l

-- Which refusals does a transcript never show? 12 to 15, 18 and 21: every answer in the output of any input, wherever that ends, is
-- one of those that are shown.
abbrev pub NeverShown : Type 0
NeverShown = (l : List ℕ) (r : Result) → Memᴰ r (replies l) → shows r.answer ≡ true

-- Is the table sound once `run` was accepted, and in lattice mode an image? Wherever the input ends.
abbrev pub SoundForGood : Type 0
SoundForGood = (table l : List ℕ) → StoreSound (after unguarded (begun table) l).kept
