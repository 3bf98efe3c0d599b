-- What the public functions answer, for a list of any length and any number: nothing of a list that is no table, nor of a
-- user, role, session, mode or object that there is not.
use Rattle.std.specs.Prelude.{◌+◌, ◌-◌}
use Rattle.bits.specs.Words.{ℕ, Bool, List, eqb, leb, ltb, length, get_or, ◌and◌, when◌then◌else◌, all, pack, tabulate}
use Rattle.bits.specs.Sets.{overlap}
use Rattle.table.specs.Authority.{covers, authorised, may_activate, effective}
use Rattle.table.specs.Table.{table_length, is_table}
use Rattle.table.specs.Reading.{word, state}

-- the roles and all their juniors
unfoldable pub covered_roles : List ℕ → ℕ → ℕ
covered_roles t roles = when is_table t then pack 64 (covers (state t) roles) else 0

-- the roles that are senior to one of the roles, or are one
unfoldable pub senior_roles : List ℕ → ℕ → ℕ
senior_roles t roles = when is_table t then pack 64 (λ r. overlap ((state t).juniors r) roles) else 0

-- the authorised roles of user u
unfoldable pub authorised_roles : List ℕ → ℕ → ℕ
authorised_roles t u = when is_table t and ltb u 64 then pack 64 (authorised (state t) u) else 0

-- the effective permissions of session s, the objects of each mode
unfoldable pub effective_permissions : List ℕ → ℕ → List ℕ
effective_permissions t s =
    tabulate 8 (λ x. when is_table t and ltb s 32 then pack 64 (effective (state t) s x) else 0)

-- role r is authorised for the user of session s, where the session's word names a user that there is
unfoldable pub activatable : List ℕ → ℕ → ℕ → Bool
activatable t s r = is_table t and ltb s 32 and ltb r 64 and leb ((state t).owner s) 64 and may_activate (state t) s r

-- (x, o) is effective for session s
unfoldable pub openable : List ℕ → ℕ → ℕ → ℕ → Bool
openable t s x o = is_table t and ltb s 32 and ltb x 8 and ltb o 64 and effective (state t) s x o

-- the n words from the place at on are 0
unfoldable pub words_empty : List ℕ → ℕ → ℕ → Bool
words_empty t at n = is_table t and leb (at + n) table_length and all n (λ i. eqb (word t (at + i)) 0)

-- ---- what the writing functions leave, of a list of any length

-- the list with the words from the place at on, as far as it goes
unfoldable pub overlay : List ℕ → ℕ → List ℕ → List ℕ
overlay t at words =
    tabulate (length t) (λ i. when leb at i and ltb i (at + length words) then get_or words (i - at) 0 else get_or t i 0)

-- the list with 0 from the place at on
unfoldable pub cleared_from : List ℕ → ℕ → List ℕ
cleared_from t at = tabulate (length t) (λ i. when leb at i then 0 else get_or t i 0)
