-- The requests of administration on a table that is known to be sound.
use Rattle.bits.specs.Words.{ℕ, List, leb, ◌and◌, when◌then◌else◌}
use Rattle.requests.specs.Request.{Ask, Outcome, refuse}
use Rattle.rbac.specs.Guard.{sound_step}

-- codes 7 to 14 come to what the role guard answers; all others are refused, whatever the length (`roles::serve` asks that first)
unfoldable pub administration_step : List ℕ → Ask → Outcome (List ℕ)
administration_step t q = when leb 7 q.code and leb q.code 14 then sound_step t q else refuse 15 t
