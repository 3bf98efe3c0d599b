-- What the public functions answer, for a list of any length and any number: no, where the list is no table or there is no such
-- pair. `separated_of` is all that 02, S-4 asks of a table; the others are the parts of it that one change can break, and whether a set
-- is in use.
use Rattle.std.specs.Prelude.{◌+◌}
use Rattle.bits.specs.Words.{ℕ, Bool, List, ltb, ◌and◌, when◌then◌else◌, has, all}
use Rattle.table.specs.State.{State}
use Rattle.table.specs.Authority.{covers}
use Rattle.table.specs.Separation.{mask, bound, fewer, static_holds, dynamic_holds, static_sets_hold, sets_empty, separated}
use Rattle.table.specs.Table.{is_table}
use Rattle.table.specs.Reading.{state}

-- this is a table, all its sets hold, and no pair is one of error 21
unfoldable pub separated_of : List ℕ → Bool
separated_of t = is_table t and separated (state t)

-- the roles include fewer of each of the 16 sets from pair first on than its bound
abbrev pub sets_fit : State → ℕ → (ℕ → Bool) → Bool
sets_fit S first roles = all 16 (λ n. fewer (mask S (first + n)) (bound S (first + n)) roles)

-- the mask and the bound as pair n hold: as a static set below 16, else as a dynamic one
unfoldable pub pair_holds : State → ℕ → ℕ → ℕ → Bool
pair_holds S n m b = when ltb n 16 then static_holds S m b else dynamic_holds S m b

unfoldable pub sets_empty_of : List ℕ → Bool
sets_empty_of t = is_table t and sets_empty (state t)

-- the roles, assigned to a user, and all their juniors fit the static sets; the roles, active in a session, fit the dynamic ones
unfoldable pub static_fit_of : List ℕ → ℕ → Bool
static_fit_of t roles = is_table t and sets_fit (state t) 0 (covers (state t) roles)

unfoldable pub dynamic_fit_of : List ℕ → ℕ → Bool
dynamic_fit_of t roles = is_table t and sets_fit (state t) 16 (has roles)

unfoldable pub pair_holds_of : List ℕ → ℕ → ℕ → ℕ → Bool
pair_holds_of t n m b = is_table t and ltb n 32 and pair_holds (state t) n m b

unfoldable pub static_sets_of : List ℕ → Bool
static_sets_of t = is_table t and static_sets_hold (state t)
