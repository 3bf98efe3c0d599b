-- What is claimed of the closure. proofs/Claims.antt proves it.
use Rattle.std.specs.Prelude.{◌↔◌, ◌<◌, ◌≡◌}
use Rattle.bits.specs.Words.{ℕ, true, List, get_or, has}
use Rattle.closure.specs.Closure.{closure, Reaches}

-- Which roles does the closure put below a role? Exactly those that a chain of direct juniors reaches.
abbrev pub ClosureMeans : Type 0
ClosureMeans = (direct : List ℕ) (r q : ℕ) → r < 64 → q < 64 → has (get_or (closure direct) r 0) q ≡ true ↔ Reaches direct r q
