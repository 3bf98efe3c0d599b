-- The whole output of the transcript program as a function of its whole input: the section of 01 on the program.
use Rattle.std.specs.Prelude.{◌+◌, ◌∷◌, ◌++◌, Option, None}
use Rattle.bits.specs.Words.{ℕ, List, [], eqb, when◌then◌else◌, tabulate}
use Rattle.table.specs.Table.{table_length}
use Rattle.reader.specs.Bytes.{newline, empty}
use Rattle.reader.specs.Line.{line}
use Rattle.reader.specs.declared.Line.{Line}
use Rattle.output.specs.Text.{row, header}
use Rattle.entries.specs.declared.Phase.TheVariants.{Opening}
use Rattle.ledger.specs.Store.{Store, store}
use Rattle.ledger.specs.Step.{guarded, step}

-- the lines of an input behind the first bytes q of a line: a newline ends a line, and what is left over without one is one
-- more line, refused
unfoldable pub lines_of : List ℕ → List ℕ → List (Option Line)
lines_of q [] = when empty q then [] else None ∷ []
lines_of q (b ∷ l) = when eqb b newline then line q ∷ lines_of [] l else lines_of (q ++ (b ∷ [])) l

-- what is shown of a line
pub record Result : Type 0 where
  pub answer : ℕ
  pub spent : ℕ

-- what is shown of lines, one after the other, by the guards of 01
unfoldable pub results : Store → List (Option Line) → List Result
results d [] = []
results d (l ∷ ls) = record { answer = (step guarded d l).answer; spent = (step guarded d l).spent } ∷ results (step guarded d l).state ls

-- a row for each, numbered from n
unfoldable pub rows : ℕ → List Result → List ℕ
rows n [] = []
rows n (r ∷ rs) = row n r.answer r.spent ++ rows (n + 1) rs

-- what is kept at the start: no mode, the lent table, and lists of nothing
unfoldable pub blank : List ℕ → Store
blank table = store Opening table (tabulate 64 (λ r. 0)) (tabulate 8 (λ x. 0)) (tabulate 64 (λ u. 0)) (tabulate 64 (λ o. 0))

-- what is shown of each line of an input: from a table of zeros, and OutputIs says that another makes no difference
unfoldable pub replies : List ℕ → List Result
replies l = results (blank (tabulate table_length (λ i. 0))) (lines_of [] l)

-- the whole output
unfoldable pub output : List ℕ → List ℕ
output l = header ++ rows 1 (replies l)
