-- What the two reading functions answer and write: refusals 12, 13 and 16 in order, then the words asked for.
use Rattle.std.specs.Prelude.{◌∷◌}
use Rattle.bits.specs.Words.{ℕ, Bool, not, List, [], eqb, ltb, length, ◌and◌, when◌then◌else◌}
use Rattle.table.specs.Sound.{sound}
use Rattle.table.specs.Table.{is_table}
use Rattle.table.specs.Reading.{state}
use Rattle.table.specs.Answers.{authorised_roles, effective_permissions}

-- an answer, and the lent words after the call
pub record Told : Type 0 where
  pub answer : ℕ
  pub words : List ℕ

unfoldable pub told : ℕ → List ℕ → Told
told n words = record { answer = n; words = words }

-- refusals 12, 13 and 16 in order, then 1; known: the session or user is there, and the lent words have their number
unfoldable pub readable : List ℕ → Bool → ℕ
readable t known =
    when not (is_table t) then 12 else
    when not (sound (state t)) then 13 else
    when not known then 16 else
    1

-- the words asked for; at a refusal the lent words stay
unfoldable pub read : List ℕ → Bool → List ℕ → List ℕ → Told
read t known out words = told (readable t known) (when eqb (readable t known) 1 then words else out)

-- the effective permissions of session s in eight words, one a mode
unfoldable pub read_permissions : List ℕ → ℕ → List ℕ → Told
read_permissions t s out = read t (ltb s 32 and eqb (length out) 8) out (effective_permissions t s)

-- the authorised roles of user u in one word
unfoldable pub read_roles : List ℕ → ℕ → List ℕ → Told
read_roles t u out = read t (ltb u 64 and eqb (length out) 1) out (authorised_roles t u ∷ [])
