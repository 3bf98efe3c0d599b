-- What a line of the transcript program is: refusal 10 of 01 and its section on the program. A line is its bytes without
-- the newline. Whether the word belongs to the mode, and takes as many fields, is said in crate entries.
use Rattle.std.specs.Prelude.{◌+◌, ◌-◌, ◌*◌, ◌^◌, ◌∷◌, Option, Some, None}
use Prim.Native.Char.{code}
use Rattle.bits.specs.Words.{ℕ, Bool, false, List, [], eqb, leb, ltb, length, ◌and◌, when◌then◌else◌}
use Rattle.reader.specs.Bytes.{ascii, tab, every, empty, same}
use Rattle.reader.specs.declared.Word.{Word}
use Rattle.reader.specs.declared.Word.TheVariants.{Roles, Lattice, Above, Permit, Clear, Label, Run, Open, Close, Start, End, Activate, Drop, Assign, Deassign, Grant, Revoke, Reclear}
use Rattle.reader.specs.declared.Fields.{Fields}
use Rattle.reader.specs.declared.Fields.TheVariants.{Without, One, Two, Three}
use Rattle.reader.specs.declared.Line.{Line}

-- the bytes before the first tab
unfoldable pub first : List ℕ → List ℕ
first [] = []
first (b ∷ l) = when eqb b tab then [] else b ∷ first l

-- the pieces behind the first tab, parted by the other tabs
unfoldable pub others : List ℕ → List (List ℕ)
others [] = []
others (b ∷ l) = when eqb b tab then first l ∷ others l else others l

-- a word and its letters
pub record Entry : Type 0 where
  pub letters : List ℕ
  pub word : Word

abbrev pub entry : List ℕ → Word → Entry
entry l w = record { letters = l; word = w }

-- the words of both modes
abbrev pub words : List Entry
words =
    entry (ascii "roles") Roles ∷
    entry (ascii "lattice") Lattice ∷
    entry (ascii "above") Above ∷
    entry (ascii "permit") Permit ∷
    entry (ascii "clear") Clear ∷
    entry (ascii "label") Label ∷
    entry (ascii "run") Run ∷
    entry (ascii "open") Open ∷
    entry (ascii "close") Close ∷
    entry (ascii "start") Start ∷
    entry (ascii "end") End ∷
    entry (ascii "activate") Activate ∷
    entry (ascii "drop") Drop ∷
    entry (ascii "assign") Assign ∷
    entry (ascii "deassign") Deassign ∷
    entry (ascii "grant") Grant ∷
    entry (ascii "revoke") Revoke ∷
    entry (ascii "reclear") Reclear ∷
    []

-- the word of a list that has these letters
unfoldable pub find : List Entry → List ℕ → Option Word
find [] p = None
find (e ∷ es) p = when same p e.letters then Some e.word else find es p

-- the word that a piece spells
unfoldable pub spelled : List ℕ → Option Word
spelled p = find words p

-- 0 to 9
abbrev pub digit : ℕ → Bool
digit b = leb (code "0") b and leb b (code "9")

-- what digits are worth behind others that are worth v
unfoldable pub worth : ℕ → List ℕ → ℕ
worth v [] = v
worth v (b ∷ l) = worth (v * 10 + (b - code "0")) l

-- digits: behind a first 0 nothing, behind another first digit only digits
unfoldable pub plain : List ℕ → Bool
plain [] = false
plain (b ∷ l) = digit b and (when eqb b (code "0") then empty l else every digit l)

-- the number that a piece is: below 2^64
unfoldable pub number : List ℕ → Option ℕ
number p = when plain p and ltb (worth 0 p) (2 ^ 64) then Some (worth 0 p) else None

-- the fields with one number more: three at most
unfoldable pub behind : Fields → ℕ → Option Fields
behind Without n = Some (One n)
behind (One a) n = Some (Two a n)
behind (Two a b) n = Some (Three a b n)
behind (Three a b c) n = None

-- the same with what a piece is: without a number there, no fields
unfoldable pub push : Option Fields → Option ℕ → Option Fields
push None n = None
push (Some fs) None = None
push (Some fs) (Some n) = behind fs n

-- the fields with those that pieces are, in order
unfoldable pub fields : List (List ℕ) → Option Fields → Option Fields
fields [] fs = fs
fields (p ∷ ps) fs = fields ps (push fs (number p))

-- a line with this word and these fields
unfoldable pub joined : Option Word → Option Fields → Option Line
joined None fs = None
joined (Some w) None = None
joined (Some w) (Some fs) = Some (record { word = w; fields = fs })

-- the line that bytes are: at most 128 of them, a word, and a number behind each tab
unfoldable pub line : List ℕ → Option Line
line l = when leb (length l) 128 then joined (spelled (first l)) (fields (others l) (Some Without)) else None
