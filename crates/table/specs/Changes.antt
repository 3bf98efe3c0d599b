-- A state with one of its sections replaced, and with the words of one user, pair, session, set or role; the juniors follow the
-- direct ones (`set_direct`, `with_direct`).
use Rattle.std.specs.Prelude.{◌+◌, ◌*◌}
use Rattle.bits.specs.Words.{ℕ, get_or, upd}
use Rattle.closure.specs.Closure.{closure}
use Rattle.table.specs.State.{State}
use Rattle.table.specs.Seniority.{links}

abbrev pub set_assigned : State → (ℕ → ℕ) → State
set_assigned S f = record {
  juniors = S.juniors;
  permitted = S.permitted;
  assigned = f;
  granted = S.granted;
  owner = S.owner;
  active = S.active;
  holds = S.holds;
  sets = S.sets;
  direct = S.direct;
  masks = S.masks;
}

abbrev pub set_granted : State → (ℕ → ℕ → ℕ) → State
set_granted S f = record {
  juniors = S.juniors;
  permitted = S.permitted;
  assigned = S.assigned;
  granted = f;
  owner = S.owner;
  active = S.active;
  holds = S.holds;
  sets = S.sets;
  direct = S.direct;
  masks = S.masks;
}

abbrev pub set_owner : State → (ℕ → ℕ) → State
set_owner S f = record {
  juniors = S.juniors;
  permitted = S.permitted;
  assigned = S.assigned;
  granted = S.granted;
  owner = f;
  active = S.active;
  holds = S.holds;
  sets = S.sets;
  direct = S.direct;
  masks = S.masks;
}

abbrev pub set_active : State → (ℕ → ℕ) → State
set_active S f = record {
  juniors = S.juniors;
  permitted = S.permitted;
  assigned = S.assigned;
  granted = S.granted;
  owner = S.owner;
  active = f;
  holds = S.holds;
  sets = S.sets;
  direct = S.direct;
  masks = S.masks;
}

abbrev pub set_holds : State → (ℕ → ℕ → ℕ) → State
set_holds S f = record {
  juniors = S.juniors;
  permitted = S.permitted;
  assigned = S.assigned;
  granted = S.granted;
  owner = S.owner;
  active = S.active;
  holds = f;
  sets = S.sets;
  direct = S.direct;
  masks = S.masks;
}

abbrev pub set_sets : State → (ℕ → ℕ) → State
set_sets S f = record {
  juniors = S.juniors;
  permitted = S.permitted;
  assigned = S.assigned;
  granted = S.granted;
  owner = S.owner;
  active = S.active;
  holds = S.holds;
  sets = f;
  direct = S.direct;
  masks = S.masks;
}

abbrev pub set_seniority : State → (ℕ → ℕ) → (ℕ → ℕ) → State
set_seniority S f g = record {
  juniors = f;
  permitted = S.permitted;
  assigned = S.assigned;
  granted = S.granted;
  owner = S.owner;
  active = S.active;
  holds = S.holds;
  sets = S.sets;
  direct = g;
  masks = S.masks;
}

abbrev pub set_masks : State → (ℕ → ℕ → ℕ) → State
set_masks S f = record {
  juniors = S.juniors;
  permitted = S.permitted;
  assigned = S.assigned;
  granted = S.granted;
  owner = S.owner;
  active = S.active;
  holds = S.holds;
  sets = S.sets;
  direct = S.direct;
  masks = f;
}

-- the direct juniors, and with them the juniors: their closure
abbrev pub set_direct : State → (ℕ → ℕ) → State
set_direct S f = set_seniority S (λ r. get_or (closure (links f)) r 0) f

abbrev pub with_assigned : State → ℕ → ℕ → State
with_assigned S u w = set_assigned S (upd S.assigned u w)

abbrev pub with_granted : State → ℕ → ℕ → ℕ → State
with_granted S x o w = set_granted S (upd S.granted x (upd (S.granted x) o w))

abbrev pub with_owner : State → ℕ → ℕ → State
with_owner S s w = set_owner S (upd S.owner s w)

abbrev pub with_active : State → ℕ → ℕ → State
with_active S s w = set_active S (upd S.active s w)

-- the eight words of openings of session s, one a mode
abbrev pub with_holds : State → ℕ → (ℕ → ℕ) → State
with_holds S s f = set_holds S (upd S.holds s f)

-- the roles and the bound of pair n
abbrev pub with_set : State → ℕ → ℕ → ℕ → State
with_set S n m b = set_sets S (upd (upd S.sets (2 * n) m) (2 * n + 1) b)

-- the direct juniors of role r, and the closure of all
abbrev pub with_direct : State → ℕ → ℕ → State
with_direct S r w = set_direct S (upd S.direct r w)

-- the eight masks of session s, one a mode
abbrev pub with_masks : State → ℕ → (ℕ → ℕ) → State
with_masks S s f = set_masks S (upd S.masks s f)
