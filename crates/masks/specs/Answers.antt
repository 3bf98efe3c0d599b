-- What the public functions answer and leave, for a list of any length and any number (02, S-6): no masks of a list that is no
-- table, and such a list, or one with a session, mode or object that there is not, left as it came.
use Rattle.std.specs.Prelude.{◌/◌, ◌%◌}
use Rattle.bits.specs.Words.{ℕ, List, ltb, ◌and◌, when◌then◌else◌, tabulate}
use Rattle.table.specs.Masks.{mask_of, refreshed_at, refreshed_pair}
use Rattle.table.specs.Table.{is_table, encode}
use Rattle.table.specs.Reading.{state}

-- the masks of all sessions, in the order of the table
unfoldable pub all_masks : List ℕ → List ℕ
all_masks t = tabulate 256 (λ i. when is_table t then mask_of (state t) (i / 8) (i % 8) else 0)

-- the table with the masks of session s worked out anew
unfoldable pub session_refreshed : List ℕ → ℕ → List ℕ
session_refreshed t s = when is_table t and ltb s 32 then encode (refreshed_at s (state t)) else t

-- the table with the pair (x, o) worked out anew in the masks of every session
unfoldable pub pair_refreshed : List ℕ → ℕ → ℕ → List ℕ
pair_refreshed t x o = when is_table t and ltb x 8 and ltb o 64 then encode (refreshed_pair x o (state t)) else t
