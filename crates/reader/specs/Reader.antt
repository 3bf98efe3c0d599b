-- The reader, a byte at a time: where it stands after each, and what it makes of the line at its end. Claims says that
-- this is what Line says of the whole line.
use Rattle.std.specs.Prelude.{◌+◌, ◌-◌, ◌*◌, ◌^◌, ◌∷◌, Option, Some, None}
use Prim.Native.Char.{code}
use Rattle.bits.specs.Words.{ℕ, Bool, false, List, [], eqb, leb, ltb, ◌and◌, when◌then◌else◌}
use Rattle.reader.specs.Bytes.{tab}
use Rattle.reader.specs.Line.{Entry, words, digit, behind}
use Rattle.reader.specs.declared.Word.{Word}
use Rattle.reader.specs.declared.Fields.{Fields}
use Rattle.reader.specs.declared.Fields.TheVariants.{Without}
use Rattle.reader.specs.declared.Line.{Line}
use Rattle.reader.specs.declared.Reader.{Reader}
use Rattle.reader.specs.declared.Reader.TheVariants.{Letters, Tab, Digits, Broken}

-- a to z
abbrev pub letter : ℕ → Bool
letter b = leb (code "a") b and leb b (code "z")

-- letters as one number, a byte each, behind those of x
abbrev pub packed : ℕ → List ℕ → ℕ
packed x [] = x
packed x (b ∷ l) = packed (x * 256 + b) l

-- the word of a list whose letters are packed in x
abbrev pub known : List Entry → ℕ → Option Word
known [] x = None
known (e ∷ es) x = when eqb x (packed 0 e.letters) then Some e.word else known es x

-- the word whose letters are packed in x
unfoldable pub word_of : ℕ → Option Word
word_of x = known words x

-- behind a word and its tab
unfoldable pub begun : Option Word → Reader
begun (Some w) = Tab w Without
begun None = Broken

-- behind fields and their tab
unfoldable pub tabbed : Word → Option Fields → Reader
tabbed w (Some fs) = Tab w fs
tabbed w None = Broken

-- behind one field more and its tab
unfoldable pub pushed : Word → Fields → ℕ → Reader
pushed w fs n = tabbed w (behind fs n)

-- one byte further on; behind a field that is 0 no digit may stand
unfoldable pub step_of : Reader → ℕ → Reader
step_of (Letters x) b =
    when eqb b tab then begun (word_of x) else
    when letter b and ltb (x * 256 + b) (2 ^ 64) then Letters (x * 256 + b) else
    Broken
step_of (Tab w fs) b = when digit b then Digits w fs (b - code "0") else Broken
step_of (Digits w fs v) b =
    when eqb b tab then pushed w fs v else
    when ltb 0 v and (digit b and ltb (v * 10 + (b - code "0")) (2 ^ 64)) then Digits w fs (v * 10 + (b - code "0")) else
    Broken
step_of Broken b = Broken

-- the line that ends where a tab would have stood
unfoldable pub ended : Reader → Option Line
ended (Tab w fs) = Some (record { word = w; fields = fs })
ended (Letters x) = None
ended (Digits w fs v) = None
ended Broken = None

-- what the line is at its newline, which ends a piece as a tab does
unfoldable pub finished : Reader → Option Line
finished s = ended (step_of s tab)

-- several bytes further on
unfoldable pub steps : Reader → List ℕ → Reader
steps s [] = s
steps s (b ∷ l) = steps (step_of s b) l

-- no byte of the line has been read
unfoldable pub fresh : Reader → Bool
fresh (Letters x) = eqb x 0
fresh (Tab w fs) = false
fresh (Digits w fs v) = false
fresh Broken = false
