-- The transcript's output as bytes: 01, "prints a header and a line for each: line number from 1, answer, spent".
use Prim.Native.Char.{code}
use Rattle.bits.specs.Words.{ℕ, zero, suc, List, [], leb, ltb, length, ◌and◌, when◌then◌else◌}
use Rattle.std.specs.Prelude.{reverse, take, ◌+◌, ◌/◌, ◌%◌, ◌≡◌, ◌∷◌, ◌++◌}
use Rattle.std.proofs.lemmas.List.Edits.{sets}
use Rattle.reader.specs.Bytes.{ascii, tab, newline}

-- the decimal digits of n, the last k at most: one digit, or those of n / 10 and one more
unfoldable pub text : ℕ → ℕ → List ℕ
text zero n = []
text (suc k) n = when leb n 9 then (code "0" + n) ∷ [] else text k (n / 10) ++ ((code "0" + n % 10) ∷ [])

-- the decimal digits of a number below 2^64, which has 20 at most; of a larger one the last 20
unfoldable pub decimal : ℕ → List ℕ
decimal n = text 20 n

-- digits, the last one first, counted up by one
unfoldable pub increased : List ℕ → List ℕ
increased [] = code "1" ∷ []
increased (b ∷ l) = when ltb b (code "9") then (b + 1) ∷ l else code "0" ∷ increased l

-- digits counted up by one
unfoldable pub next : List ℕ → List ℕ
next digits = reverse (increased (reverse digits))

-- a number and the byte behind it
unfoldable pub column : ℕ → ℕ → List ℕ
column n behind = decimal n ++ (behind ∷ [])

-- a row by the digits of its number
unfoldable pub row_of : List ℕ → ℕ → ℕ → List ℕ
row_of digits answer spent = (digits ++ (tab ∷ [])) ++ column answer tab ++ column spent newline

-- number, answer and spent, parted by tabs, with a newline
unfoldable pub row : ℕ → ℕ → ℕ → List ℕ
row number answer spent = row_of (decimal number) answer spent

-- the longest row: three numbers of 20 digits, and a byte behind each
abbrev pub row_room : ℕ
row_room = 63

-- the first line
unfoldable pub header : List ℕ
header = ascii "line\tanswer\tspent\n"

-- bytes where out has room for a row from a place on, else none
unfoldable pub fitting : List ℕ → ℕ → List ℕ → List ℕ
fitting out at bytes = when leb (at + row_room) (length out) then bytes else []

-- bytes where out has room for n, else none
unfoldable pub holding : List ℕ → ℕ → List ℕ → List ℕ
holding out n bytes = when leb n (length out) then bytes else []

-- a row by the first k bytes of digits, where they are 20 at most and are there, else none
unfoldable pub numbered : List ℕ → ℕ → ℕ → ℕ → List ℕ
numbered digits k answer spent = when (leb k 20 and leb k (length digits)) then row_of (take k digits) answer spent else []

-- result is out with bytes stored from a place on, and next is the place behind them
pub record Wrote (out : List ℕ) (at : ℕ) (bytes : List ℕ) (result : List ℕ) (next : ℕ) : Type 0 where
  pub result_is : result ≡ sets out at bytes
  pub next_is : next ≡ at + length bytes
