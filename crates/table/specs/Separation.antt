-- Separation of duties (02, S-4): static sets 0 to 15 and dynamic sets 0 to 15, each a mask of roles and a bound. Each rule as
-- a test, and below as a plain statement.
use Rattle.std.specs.Prelude.{◌+◌, ◌*◌, ◌≤◌, ◌<◌, ◌≡◌}
use Rattle.bits.specs.Words.{ℕ, Bool, false, not, eqb, ltb, ◌and◌, ◌or◌, has, all}
use Rattle.bits.specs.Sets.{count, size}
use Rattle.table.specs.State.{State}
use Rattle.table.specs.Authority.{authorised}

-- the roles of pair n, and its bound: static set n is pair n, dynamic set n is pair 16 + n
abbrev pub mask : State → ℕ → ℕ
mask S n = S.sets (2 * n)

abbrev pub bound : State → ℕ → ℕ
bound S n = S.sets (2 * n + 1)

-- ---- a pair

-- an empty pair: both 0
unfoldable pub empty_pair : ℕ → ℕ → Bool
empty_pair m b = eqb m 0 and eqb b 0

-- error 21: "a pair that is not both 0 and whose bound is below 2 or above the number of roles in the mask"
unfoldable pub bad_pair : ℕ → ℕ → Bool
bad_pair m b = not (empty_pair m b) and (ltb b 2 or ltb (size m) b)

-- how many roles of the mask f holds of
unfoldable pub included : ℕ → (ℕ → Bool) → ℕ
included m f = count 64 (λ r. has m r and f r)

-- roles include fewer of the mask than the bound; an empty pair always holds
unfoldable pub fewer : ℕ → ℕ → (ℕ → Bool) → Bool
fewer m b roles =
    let few = ltb (included m roles) b in
    empty_pair m b or few

-- ---- a set

-- a static set holds when no user's authorised roles include as many of its roles as the bound
abbrev pub static_holds : State → ℕ → ℕ → Bool
static_holds S m b = all 64 (λ u. fewer m b (authorised S u))

-- a dynamic one says the same of a session's active roles
abbrev pub dynamic_holds : State → ℕ → ℕ → Bool
dynamic_holds S m b = all 32 (λ s. fewer m b (has (S.active s)))

-- ---- all sets

-- every static set holds, and every dynamic one
abbrev pub static_sets_hold : State → Bool
static_sets_hold S = all 16 (λ n. static_holds S (mask S n) (bound S n))

abbrev pub dynamic_sets_hold : State → Bool
dynamic_sets_hold S = all 16 (λ n. dynamic_holds S (mask S (16 + n)) (bound S (16 + n)))

-- no pair is one of error 21
abbrev pub pairs_good : State → Bool
pairs_good S = all 32 (λ n. not (bad_pair (mask S n) (bound S n)))

-- no set is in use
abbrev pub sets_empty : State → Bool
sets_empty S = all 64 (λ i. eqb (S.sets i) 0)

-- all sets hold, and no pair is one of error 21
unfoldable pub separated : State → Bool
separated S = static_sets_hold S and dynamic_sets_hold S and pairs_good S

-- ---- plain readings

-- where the pair is not empty, f holds of fewer roles of the mask than the bound
abbrev pub Fewer : ℕ → ℕ → (ℕ → Bool) → Type 0
Fewer m b f = empty_pair m b ≡ false → included m f < b

-- where the pair is not empty, its bound is at least 2 and at most the number of roles in the mask
abbrev pub GoodPair : ℕ → ℕ → Type 0
GoodPair m b = empty_pair m b ≡ false → (2 ≤ b) × (b ≤ size m)

-- every set holds, and no pair is one of error 21
pub record Separated (S : State) : Type 0 where
  pub static_holds : (n u : ℕ) → n < 16 → u < 64 → Fewer (mask S n) (bound S n) (authorised S u)
  pub dynamic_holds : (n s : ℕ) → n < 16 → s < 32 → Fewer (mask S (16 + n)) (bound S (16 + n)) (has (S.active s))
  pub pairs_good : (n : ℕ) → n < 32 → GoodPair (mask S n) (bound S n)
