-- The table of 01 ("The table"), with the sections that 02 adds at its end (S-4, S-5, S-6): the words that show a state.
use Rattle.std.specs.Prelude.{◌/◌, ◌%◌, ◌++◌}
use Rattle.bits.specs.Words.{ℕ, Bool, List, eqb, length, tabulate}
use Rattle.table.specs.State.{State}

-- the number of words of a table
abbrev pub table_length : ℕ
table_length = 1352

unfoldable pub is_table : List ℕ → Bool
is_table t = eqb (length t) table_length

-- its sections, in the order of 01 and 02
unfoldable pub encode : State → List ℕ
encode S =
    tabulate 64 S.juniors ++ (tabulate 8 S.permitted ++ (tabulate 64 S.assigned
    ++ (tabulate 512 (λ i. S.granted (i / 64) (i % 64))
    ++ (tabulate 32 S.owner ++ (tabulate 32 S.active
    ++ (tabulate 256 (λ i. S.holds (i / 8) (i % 8))
    ++ (tabulate 64 S.sets ++ (tabulate 64 S.direct
    ++ tabulate 256 (λ i. S.masks (i / 8) (i % 8))))))))))
