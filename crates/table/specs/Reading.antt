-- The state that a table shows, and where each of its words stands. No other page says where, but for the order of the sections in
-- `encode` (Table). Words that a shorter list lacks read as 0.
use Rattle.std.specs.Prelude.{◌+◌, ◌*◌}
use Rattle.bits.specs.Words.{ℕ, List, get_or}
use Rattle.table.specs.State.{State}

-- ---- where each word stands

abbrev pub juniors_at : ℕ → ℕ
juniors_at r = r

abbrev pub permitted_at : ℕ → ℕ
permitted_at x = 64 + x

abbrev pub assigned_at : ℕ → ℕ
assigned_at u = 72 + u

abbrev pub granted_at : ℕ → ℕ → ℕ
granted_at x o = 136 + 64 * x + o

abbrev pub owner_at : ℕ → ℕ
owner_at s = 648 + s

abbrev pub active_at : ℕ → ℕ
active_at s = 680 + s

abbrev pub holds_at : ℕ → ℕ → ℕ
holds_at s x = 712 + 8 * s + x

abbrev pub sets_at : ℕ → ℕ
sets_at i = 968 + i

abbrev pub direct_at : ℕ → ℕ
direct_at r = 1032 + r

abbrev pub masks_at : ℕ → ℕ → ℕ
masks_at s x = 1096 + 8 * s + x

-- ---- the state that a table shows

abbrev pub word : List ℕ → ℕ → ℕ
word t i = get_or t i 0

abbrev pub state : List ℕ → State
state t = record {
  juniors = λ r. word t (juniors_at r);
  permitted = λ x. word t (permitted_at x);
  assigned = λ u. word t (assigned_at u);
  granted = λ x o. word t (granted_at x o);
  owner = λ s. word t (owner_at s);
  active = λ s. word t (active_at s);
  holds = λ s x. word t (holds_at s x);
  sets = λ i. word t (sets_at i);
  direct = λ r. word t (direct_at r);
  masks = λ s x. word t (masks_at s x);
}
