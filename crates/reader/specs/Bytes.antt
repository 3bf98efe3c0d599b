-- Bytes by the characters that they are in ASCII, and tests on lists of bytes.
use Rattle.std.specs.Prelude.{◌∷◌}
use Prim.Native.Char.{code}
use Prim.Native.String.{String, [] as nothing, ◌∷◌ as ◌before◌}
use Rattle.bits.specs.Words.{ℕ, Bool, true, false, List, [], eqb, ◌and◌}

-- the bytes of a text in ASCII: the codes of its characters
abbrev pub ascii : String → List ℕ
ascii nothing = []
ascii (c before t) = code c ∷ ascii t

-- what parts the pieces of a line
abbrev pub tab : ℕ
tab = code "\t"

-- what ends a line
abbrev pub newline : ℕ
newline = code "\n"

-- every byte passes the test
unfoldable pub every : (ℕ → Bool) → List ℕ → Bool
every f [] = true
every f (b ∷ l) = f b and every f l

-- there is no byte
unfoldable pub empty : List ℕ → Bool
empty [] = true
empty (b ∷ l) = false

-- the two lists are equal
unfoldable pub same : List ℕ → List ℕ → Bool
same [] [] = true
same [] (b ∷ l) = false
same (a ∷ k) [] = false
same (a ∷ k) (b ∷ l) = eqb a b and same k l
