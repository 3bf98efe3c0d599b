-- The role set-up of 01: refusals 12, 18 and 20 in order, then the closure, the permissions, the direct juniors as given but
-- for own bits (02, S-5) and zero elsewhere. Old contents of the table do not matter.
use Rattle.bits.specs.Words.{ℕ, not, List, eqb, length, get_or, ◌and◌, when◌then◌else◌}
use Rattle.bits.specs.Sets.{◌without◌}
use Rattle.table.specs.State.{State}
use Rattle.table.specs.Table.{is_table, encode}
use Rattle.requests.specs.Request.{Outcome, refuse, accept}
use Rattle.closure.specs.Closure.{closure, acyclic}

-- nobody is assigned or granted anything, all sessions are idle and may open nothing, and no set is in use
unfoldable pub fresh : List ℕ → List ℕ → State
fresh direct permissions = record {
  juniors = λ r. get_or (closure direct) r 0;
  permitted = λ x. get_or permissions x 0;
  assigned = λ u. 0;
  granted = λ x o. 0;
  owner = λ s. 0;
  active = λ s. 0;
  holds = λ s x. 0;
  sets = λ i. 0;
  direct = λ r. get_or direct r 0 without r;
  masks = λ s x. 0;
}

unfoldable pub role_set_up : List ℕ → List ℕ → List ℕ → Outcome (List ℕ)
role_set_up t direct permissions =
    when not (is_table t) then refuse 12 t else
    when not (eqb (length direct) 64 and eqb (length permissions) 8) then refuse 18 t else
    when not (acyclic (closure direct)) then refuse 20 t else
    accept (encode (fresh direct permissions))
