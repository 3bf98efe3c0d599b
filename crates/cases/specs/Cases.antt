-- The starred bench cases of 01, A to I, as a single table, and the claim that every row of it is met in sequence.
use Rattle.std.specs.Prelude.{◌≡◌, ◌∷◌}
use Rattle.bits.specs.Words.{ℕ, Bool, true, List, [], eqb, leb, length, ◌implies◌, when◌then◌else◌, all, tabulate}
use Rattle.table.specs.Table.{table_length}
use Rattle.requests.specs.Request.{Ask, ask}
use Rattle.rbac.specs.Guard.{role_step}
use Rattle.setup.specs.SetUp.{role_set_up}
use Rattle.machine.specs.declared.Standing.{Standing}
use Rattle.machine.specs.declared.Standing.TheVariants.{Equal, Apart}
use Rattle.machine.specs.Label.{stands, equal_or_above}

-- a request with its answer, two labels and how they stand, or what holds of many
pub data Row : Type 0 where
  asked : Ask → ℕ → Row
  compared : ℕ → ℕ → Standing → Row
  holds : Bool → Row

-- role 5 above 3, 3 above 1; only (0, 9) a permission
unfoldable pub direct : List ℕ
direct = tabulate 64 (λ r. when eqb r 5 then 8 else (when eqb r 3 then 2 else 0))

unfoldable pub permissions : List ℕ
permissions = 512 ∷ 0 ∷ 0 ∷ 0 ∷ 0 ∷ 0 ∷ 0 ∷ 0 ∷ []

-- the rows, in sequence
unfoldable pub starred : List Row
starred =
    -- A
    asked (ask 9 1 0 9) 1
    ∷ asked (ask 9 1 1 9) 17
    -- B
    ∷ asked (ask 3 0 2 0) 1
    ∷ asked (ask 3 0 2 0) 0
    -- C
    ∷ asked (ask 7 2 3 0) 1
    ∷ asked (ask 5 0 5 0) 0
    ∷ asked (ask 5 0 1 0) 1
    ∷ asked (ask 5 0 3 0) 1
    -- D
    ∷ asked (ask 1 0 9 0) 1
    -- E
    ∷ asked (ask 6 0 1 0) 1
    ∷ asked (ask 6 0 3 0) 0
    -- F
    ∷ asked (ask 8 2 3 0) 0
    ∷ asked (ask 7 2 5 0) 1
    ∷ asked (ask 8 2 3 0) 1
    -- G
    ∷ asked (ask 10 1 0 9) 0
    ∷ asked (ask 9 3 0 9) 1
    ∷ asked (ask 10 1 0 9) 1
    -- H
    ∷ asked (ask 2 5 9 0) 1
    ∷ asked (ask 1 5 9 0) 0
    -- I
    ∷ compared 17 18 Apart
    ∷ compared 18 17 Apart
    ∷ holds (all 32 (λ a. equal_or_above (stands 31 a)))
    ∷ holds (all 32 (λ a. equal_or_above (stands 0 a) implies eqb a 0))
    ∷ compared 0 0 Equal
    ∷ []

-- 01: a role request answered yes or no spends 1, a refusal 0
unfoldable pub spent_on : ℕ → ℕ
spent_on answer = when leb answer 1 then 1 else 0

-- every row is met, in sequence from the table on
abbrev pub Met : List ℕ → List Row → Type 0
Met t [] = Unit
Met t (asked q n ∷ rows) = ((role_step t q).answer ≡ n) × Met (role_step t q).state rows
Met t (compared a b w ∷ rows) = (stands a b ≡ w) × Met t rows
Met t (holds b ∷ rows) = (b ≡ true) × Met t rows

-- on the table t the set-up is accepted, and every row is met after it
pub record Starred (t : List ℕ) : Type 0 where
  pub accepted : (role_set_up t direct permissions).answer ≡ 1
  pub met : Met (role_set_up t direct permissions).state starred

-- on every table, whatever it held before the set-up
abbrev pub StarredCases : Type 0
StarredCases = (t : List ℕ) → length t ≡ table_length → Starred t
