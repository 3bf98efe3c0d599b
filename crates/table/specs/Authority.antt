-- Seniority, authorised roles (ER) and effective permissions (EP) after source 000, each as a test, and below as a plain
-- statement. Roles are looked for among 0 to 63; the user, role, object, session or mode asked for is not held to its range here.
use Rattle.std.specs.Prelude.{◌-◌, ◌<◌, ◌≡◌}
use Rattle.bits.specs.Words.{ℕ, Bool, true, not, eqb, ◌and◌, has}
use Rattle.bits.specs.Sets.{some}
use Rattle.table.specs.State.{State}

-- role r is senior to role q or is q: q ≤ r in source 000, §2.3
abbrev pub senior : State → ℕ → ℕ → Bool
senior S r q = has (S.juniors r) q

-- the pair (mode x, object o) is a permission: an element of P in source 000, §2.2
abbrev pub permission : State → ℕ → ℕ → Bool
permission S x o = has (S.permitted x) o

-- session s is idle
abbrev pub idle : State → ℕ → Bool
idle S s = eqb (S.owner s) 0

-- the user of a session that is not
abbrev pub user : State → ℕ → ℕ
user S s = S.owner s - 1

-- role q is one of the roles, or a junior of one
unfoldable pub covers : State → ℕ → ℕ → Bool
covers S roles q = some roles (λ r. senior S r q)

-- 01: the authorised roles of a user are those assigned and all their juniors
unfoldable pub authorised : State → ℕ → ℕ → Bool
authorised S u q = covers S (S.assigned u) q

-- 01: an idle session has no authorised roles; any other has those of its user: ER of source 000, §2.5
unfoldable pub may_activate : State → ℕ → ℕ → Bool
may_activate S s q = not (idle S s) and authorised S (user S s) q

-- (x, o) is a permission, granted to an active role of s or to a junior of one: EP of source 000, §2.5
unfoldable pub effective : State → ℕ → ℕ → ℕ → Bool
effective S s x o = permission S x o and some (S.active s) (λ r. some (S.granted x o) (λ q. senior S r q))

-- ---- plain readings

-- some role assigned to u is senior to q or is q
pub record Authorised (S : State) (u q : ℕ) : Type 0 where
  pub role : ℕ
  pub below : role < 64
  pub assigned_to : has (S.assigned u) role ≡ true
  pub senior_to : senior S role q ≡ true

-- (x, o) is a permission, and granted to a role that some active role of s is senior to or is
pub record Effective (S : State) (s x o : ℕ) : Type 0 where
  pub permitted_pair : permission S x o ≡ true
  pub role : ℕ
  pub below : role < 64
  pub active_in : has (S.active s) role ≡ true
  pub junior : ℕ
  pub junior_below : junior < 64
  pub senior_to : senior S role junior ≡ true
  pub granted_to : has (S.granted x o) junior ≡ true
