-- The reflexive, transitive closure of 64 words of direct juniors, worked out by Warshall's way. What it is, the roles that
-- a chain of links reaches, is `Reaches`; Claims says that the two are the same.
use Rattle.std.specs.Prelude.{◌<◌, ◌≡◌}
use Rattle.bits.specs.Words.{ℕ, zero, suc, Bool, true, List, eqb, get_or, ◌implies◌, when◌then◌else◌, has, all, ◌with◌, tabulate}
use Rattle.bits.specs.Sets.{each, join}

-- every role that has k has what k has
unfoldable pub via : ℕ → List ℕ → List ℕ
via k rows =
    tabulate 64 (λ r. when has (get_or rows r 0) k then join (get_or rows r 0) (get_or rows k 0) else get_or rows r 0)

-- by way of the roles below n
unfoldable pub through : ℕ → List ℕ → List ℕ
through zero rows = rows
through (suc n) rows = via n (through n rows)

-- each role with its direct juniors and itself, then by way of all roles
unfoldable pub closure : List ℕ → List ℕ
closure direct = through 64 (tabulate 64 (λ r. get_or direct r 0 with r))

-- no two different roles are each in the other's row
unfoldable pub acyclic : List ℕ → Bool
acyclic rows = all 64 (λ r. each (get_or rows r 0) (λ q. has (get_or rows q 0) r implies eqb r q))

-- role q is reached from role r by a chain of links, each from a role to one of its direct juniors
pub data Reaches (direct : List ℕ) : ℕ → ℕ → Type 0 where
  here : {r : ℕ} → Reaches direct r r
  link : {r p q : ℕ} → p < 64 → has (get_or direct r 0) p ≡ true → Reaches direct p q → Reaches direct r q
