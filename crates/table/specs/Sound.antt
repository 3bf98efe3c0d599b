-- Soundness of a state: a definition for each clause of 01, in its words, the clauses together, and with them those of 02.
-- `Sound` says the same as plain facts.
use Rattle.std.specs.Prelude.{◌≤◌, ◌<◌, ◌≡◌}
use Rattle.bits.specs.Words.{ℕ, Bool, true, eqb, leb, ◌and◌, ◌implies◌, has, all}
use Rattle.bits.specs.Sets.{each}
use Rattle.table.specs.State.{State}
use Rattle.table.specs.Authority.{senior, permission, idle, may_activate, effective}
use Rattle.table.specs.Seniority.{own_clear, closed, Linked}
use Rattle.table.specs.Separation.{separated, Separated}
use Rattle.table.specs.Masks.{masks_true, MasksTrue}

-- seniority is reflexive, transitive and has no two different roles each senior to the other
unfoldable pub reflexive : State → Bool
reflexive S = all 64 (λ r. senior S r r)

unfoldable pub transitive : State → Bool
transitive S = all 64 (λ r. each (S.juniors r) (λ q. each (S.juniors q) (λ p. senior S r p)))

unfoldable pub antisymmetric : State → Bool
antisymmetric S = all 64 (λ r. each (S.juniors r) (λ q. senior S q r implies eqb r q))

-- a role is granted only pairs that are permissions
unfoldable pub grants_permitted : State → Bool
grants_permitted S = all 8 (λ x. all 64 (λ o. each (S.granted x o) (λ r. permission S x o)))

-- session words are at most 64
unfoldable pub owners_known : State → Bool
owners_known S = all 32 (λ s. leb (S.owner s) 64)

-- idle sessions have no roles and no openings
unfoldable pub idle_empty : State → Bool
idle_empty S = all 32 (λ s. idle S s implies (eqb (S.active s) 0 and all 8 (λ x. eqb (S.holds s x) 0)))

-- active roles are authorised for the session's user
unfoldable pub active_authorised : State → Bool
active_authorised S = all 32 (λ s. each (S.active s) (λ r. may_activate S s r))

-- each opening is an effective permission of its session
unfoldable pub openings_effective : State → Bool
openings_effective S = all 32 (λ s. all 8 (λ x. each (S.holds s x) (λ o. effective S s x o)))

-- what 01 asks, and 02, S-5: "those bits are clear and ... the first 64 words are their closure"
unfoldable pub roles_sound : State → Bool
roles_sound S =
    reflexive S
    and transitive S
    and antisymmetric S
    and grants_permitted S
    and owners_known S
    and idle_empty S
    and active_authorised S
    and openings_effective S
    and own_clear S
    and closed S

-- with it 02, S-4: "Soundness includes all sets and that no pair is one of error 21"; all but the masks, which follow from the rest
unfoldable pub ruled : State → Bool
ruled S = roles_sound S and separated S

-- 02, S-6: "a table where they are not [true] is unsound"
unfoldable pub sound : State → Bool
sound S = ruled S and masks_true S

-- ---- the same, as plain facts of the users, roles, modes, objects and sessions that there are

pub record Ruled (S : State) : Type 0 where
  pub is_reflexive : (r : ℕ) → r < 64 → senior S r r ≡ true
  pub is_transitive : (r q p : ℕ) → r < 64 → q < 64 → p < 64
      → senior S r q ≡ true → senior S q p ≡ true → senior S r p ≡ true
  pub is_antisymmetric : (r q : ℕ) → r < 64 → q < 64 → senior S r q ≡ true → senior S q r ≡ true → r ≡ q
  pub grants_permitted : (x o r : ℕ) → x < 8 → o < 64 → r < 64 → has (S.granted x o) r ≡ true → permission S x o ≡ true
  pub owners_known : (s : ℕ) → s < 32 → S.owner s ≤ 64
  pub idle_no_roles : (s : ℕ) → s < 32 → idle S s ≡ true → S.active s ≡ 0
  pub idle_no_openings : (s x : ℕ) → s < 32 → x < 8 → idle S s ≡ true → S.holds s x ≡ 0
  pub active_authorised : (s r : ℕ) → s < 32 → r < 64 → has (S.active s) r ≡ true → may_activate S s r ≡ true
  pub openings_effective : (s x o : ℕ) → s < 32 → x < 8 → o < 64 → has (S.holds s x) o ≡ true → effective S s x o ≡ true
  pub is_linked : Linked S.juniors S.direct
  pub is_separated : Separated S

pub record Sound (S : State) : Type 0 where
  pub is_ruled : Ruled S
  pub masks_true : MasksTrue S
