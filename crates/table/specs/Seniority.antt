-- Links from roles to their direct juniors, and the seniority that they make (02, S-5): as a test, and below as a plain statement.
use Rattle.std.specs.Prelude.{◌↔◌, ◌^◌, ◌<◌, ◌≡◌}
use Rattle.bits.specs.Words.{ℕ, Bool, true, false, not, List, eqb, get_or, has, all, tabulate}
use Rattle.closure.specs.Closure.{closure, Reaches}
use Rattle.table.specs.State.{State}

-- the direct juniors of each role, as the closure takes them
abbrev pub links : (ℕ → ℕ) → List ℕ
links direct = tabulate 64 direct

-- no role is its own direct junior: "own bits clear"
unfoldable pub own_clear : State → Bool
own_clear S = all 64 (λ r. not (has (S.direct r) r))

-- "the first 64 words are their closure"
unfoldable pub closed : State → Bool
closed S =
    let rows = closure (links S.direct) in
    all 64 (λ r. eqb (S.juniors r) (get_or rows r 0))

-- ---- plain reading

-- no role is its own direct junior, and the juniors of a role, no members past 63 among them, are exactly those that a chain of
-- links reaches, each from a role to a direct junior
pub record Linked (juniors direct : ℕ → ℕ) : Type 0 where
  pub own_clear : (r : ℕ) → r < 64 → has (direct r) r ≡ false
  pub is_word : (r : ℕ) → r < 64 → juniors r < 2 ^ 64
  pub is_reached : (r q : ℕ) → r < 64 → q < 64 → has (juniors r) q ≡ true ↔ Reaches (links direct) r q
