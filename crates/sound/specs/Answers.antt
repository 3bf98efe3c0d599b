-- What the public functions answer, for a list of any length and any number: no, where the list is no table or there is no
-- such session, user, mode or object. `is_sound` is soundness, of 01 and 02; the others are the parts of it that one change can
-- break.
use Rattle.std.specs.Prelude.{◌+◌, ◌*◌}
use Rattle.bits.specs.Words.{ℕ, suc, Bool, List, eqb, leb, ltb, get_or, ◌and◌, ◌implies◌, has, all, subset}
use Rattle.bits.specs.Sets.{each}
use Rattle.table.specs.State.{State}
use Rattle.table.specs.Authority.{authorised, may_activate, effective}
use Rattle.table.specs.Sound.{sound}
use Rattle.table.specs.Table.{is_table}
use Rattle.table.specs.Reading.{state}

-- this is a table, and sound
unfoldable pub is_sound : List ℕ → Bool
is_sound t = is_table t and sound (state t)

-- all that session s holds open is effective for it
unfoldable pub openings_fit : State → ℕ → Bool
openings_fit S s = all 8 (λ x. each (S.holds s x) (λ o. effective S s x o))

-- the active roles of every session of user u are authorised for u
unfoldable pub sessions_fit : State → ℕ → Bool
sessions_fit S u = all 32 (λ s. eqb (S.owner s) (suc u) implies each (S.active s) (λ r. authorised S u r))

-- (x, o) is effective for every session that holds it open
unfoldable pub pair_fits : State → ℕ → ℕ → Bool
pair_fits S x o = all 32 (λ s. has (S.holds s x) o implies effective S s x o)

-- every session: its word is at most 64, its active roles are authorised for it, and all that it holds open is effective
unfoldable pub sessions_hold : State → Bool
sessions_hold S = all 32 (λ s. leb (S.owner s) 64 and each (S.active s) (may_activate S s) and openings_fit S s)

-- all that session s holds open is in these eight masks
unfoldable pub held_within : State → ℕ → (ℕ → ℕ) → Bool
held_within S s masks = all 8 (λ x. subset (S.holds s x) (masks x))

unfoldable pub openings_within : List ℕ → ℕ → List ℕ → Bool
openings_within t s masks = is_table t and ltb s 32 and held_within (state t) s (λ x. get_or masks x 0)

-- every session: its word is at most 64, its active roles are authorised for it, and all that it holds open is in its eight of the
-- masks, which are in the order of the table
unfoldable pub sessions_within : List ℕ → List ℕ → Bool
sessions_within t masks =
    is_table t and all 32 (λ s. leb ((state t).owner s) 64 and each ((state t).active s) (may_activate (state t) s) and held_within (state t) s (λ x. get_or masks (8 * s + x) 0))

unfoldable pub sessions_of : List ℕ → ℕ → Bool
sessions_of t u = is_table t and ltb u 64 and sessions_fit (state t) u

unfoldable pub holders_of : List ℕ → ℕ → ℕ → Bool
holders_of t x o = is_table t and ltb x 8 and ltb o 64 and pair_fits (state t) x o
