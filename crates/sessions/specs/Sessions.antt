-- The requests of sessions on a table that is known to be sound.
use Rattle.bits.specs.Words.{ℕ, List, leb, ◌and◌, when◌then◌else◌}
use Rattle.requests.specs.Request.{Ask, Outcome, refuse}
use Rattle.rbac.specs.Guard.{sound_step}

-- codes 1 to 6 come to what the role guard answers; all others are refused, whatever the length (`roles::serve` asks that first)
unfoldable pub session_step : List ℕ → Ask → Outcome (List ℕ)
session_step t q = when leb 1 q.code and leb q.code 6 then sound_step t q else refuse 15 t
