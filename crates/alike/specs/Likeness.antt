-- Likeness of two tables (01, "Set-up and likeness"; 02, S-7): the same openings, the same effective permissions of each session
-- and the same authorised roles of each user.
use Rattle.std.specs.Prelude.{◌<◌, ◌≡◌}
use Rattle.bits.specs.Words.{ℕ, Bool, not, List, eqb, ◌and◌, when◌then◌else◌, all, pack}
use Rattle.table.specs.State.{State}
use Rattle.table.specs.Authority.{authorised, effective}
use Rattle.table.specs.Sound.{sound}
use Rattle.table.specs.Table.{is_table}
use Rattle.table.specs.Reading.{state}

-- session s holds the same objects in each mode, and the same are effective for it
unfoldable pub same_session : State → State → ℕ → Bool
same_session S S' s =
    all 8 (λ x.
    eqb (S.holds s x) (S'.holds s x)
    and eqb (pack 64 (effective S s x)) (pack 64 (effective S' s x)))

-- user u is authorised for the same roles, whether or not u has a session
unfoldable pub same_user : State → State → ℕ → Bool
same_user S S' u = eqb (pack 64 (authorised S u)) (pack 64 (authorised S' u))

-- 02, S-7: "exactly when, besides openings and effective permissions, each of the 64 users has the same authorised roles"
unfoldable pub same_state : State → State → Bool
same_state S S' = all 32 (λ s. same_session S S' s) and all 64 (λ u. same_user S S' u)

-- 12 then 13 for the first table, then for the second, else 1 or 0
unfoldable pub likeness : List ℕ → List ℕ → ℕ
likeness first second =
    when not (is_table first) then 12 else
    when not (sound (state first)) then 13 else
    when not (is_table second) then 12 else
    when not (sound (state second)) then 13 else
    when same_state (state first) (state second) then 1 else 0

-- the same, as plain facts
pub record Alike (S S' : State) : Type 0 where
  pub same_openings : (s x : ℕ) → s < 32 → x < 8 → S.holds s x ≡ S'.holds s x
  pub same_permissions : (s x o : ℕ) → s < 32 → x < 8 → o < 64 → effective S s x o ≡ effective S' s x o
  pub same_roles : (u q : ℕ) → u < 64 → q < 64 → authorised S u q ≡ authorised S' u q
