-- What is claimed of lines read from blocks, each as the answer to a question. proofs/Claims.antt proves them. The contract of
-- feed says that the code does what fed says, so that what is claimed of fed holds whatever way through the code a piece takes.
use Rattle.std.specs.Prelude.{◌+◌, ◌≡◌, ◌∷◌, ◌++◌}
use Rattle.bits.specs.Words.{ℕ, Bool, true, false, List, [], eqb, not, length}
use Rattle.reader.specs.Bytes.{newline, every}
use Rattle.reader.specs.Line.{line}
use Rattle.reader.specs.Reader.{finished, steps}
use Rattle.reader.specs.declared.Reader.{Reader}
use Rattle.reader.specs.declared.Reader.TheVariants.{Letters}
use Rattle.lines.specs.Blocks.{fed}

-- there is no newline among the bytes
abbrev pub in_one_line : List ℕ → Bool
in_one_line l = every (λ b. not (eqb b newline)) l

-- What comes of a piece of a line, wherever the reader stands? Every byte of it is used, once and in order.
abbrev pub PieceFed : Type 0
PieceFed = (s : Reader) (p : List ℕ) (at : ℕ) → in_one_line p ≡ true → fed s p at ≡ record { whole = false; reader = steps s p; next = at + length p }

-- pieces handed over in order, each as a block of its own: the reader goes on from where the piece before left it
unfoldable pub handed : Reader → List (List ℕ) → Reader
handed s [] = s
handed s (p ∷ ps) = handed (fed s p 0).reader ps

-- pieces joined
unfoldable pub flat : List (List ℕ) → List ℕ
flat [] = []
flat (p ∷ ps) = p ++ flat ps

-- the last piece p of a line, with the newline and other bytes behind it, where the pieces ps came before: the line is whole
-- behind the newline, and is what Line says of the pieces joined
pub record LastPiece (ps : List (List ℕ)) (p rest : List ℕ) (at : ℕ) : Type 0 where
  pub whole : (fed (handed (Letters 0) ps) (p ++ newline ∷ rest) at).whole ≡ true
  pub next : (fed (handed (Letters 0) ps) (p ++ newline ∷ rest) at).next ≡ at + length p + 1
  pub line_is : finished (fed (handed (Letters 0) ps) (p ++ newline ∷ rest) at).reader ≡ line (flat ps ++ p)

-- Does it matter how a line is cut (02, S-3)? No: its pieces, wherever it is cut, in order, give the fields or the refusal of the
-- line in one piece, which is the case without pieces before the last.
abbrev pub PiecesFed : Type 0
PiecesFed = (ps : List (List ℕ)) (p rest : List ℕ) (at : ℕ) → in_one_line (flat ps ++ p) ≡ true → LastPiece ps p rest at
