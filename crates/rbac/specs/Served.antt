-- What the private functions, one for each request, take and answer. No promise rests on this page.
use Rattle.std.specs.Prelude.{◌<◌, ◌≡◌, Result, MatchResult}
use Rattle.bits.specs.Words.{ℕ, Bool, true, false, List, when◌then◌else◌}
use Rattle.table.specs.Separation.{GoodPair}
use Rattle.table.specs.Reading.{state}
use Rattle.table.specs.Table.{encode}
use Rattle.requests.specs.declared.Refusal.{Refusal}
use Rattle.rbac.specs.Roles.{Request, opens, closes, starts, ends, activates, drops, assigns, deassigns, grants, revokes, separates, links, unlinks}
use Rattle.rbac.specs.Guard.{allowed_sound, changed_sound}

-- the users, roles, objects, sessions, modes and sets that a request names are there, and no pair is one of error 21
abbrev pub Ranged : Request → Type 0
Ranged (opens s o x) = (s < 32) × (o < 64) × (x < 8)
Ranged (closes s o x) = (s < 32) × (o < 64) × (x < 8)
Ranged (starts s u roles) = (s < 32) × (u < 64)
Ranged (ends s) = s < 32
Ranged (activates s r) = (s < 32) × (r < 64)
Ranged (drops s r) = (s < 32) × (r < 64)
Ranged (assigns u r) = (u < 64) × (r < 64)
Ranged (deassigns u r) = (u < 64) × (r < 64)
Ranged (grants r x o) = (r < 64) × (x < 8) × (o < 64)
Ranged (revokes r x o) = (r < 64) × (x < 8) × (o < 64)
Ranged (separates n roles bound) = (n < 32) × GoodPair roles bound
Ranged (links r q) = (r < 64) × (q < 64)
Ranged (unlinks r q) = (r < 64) × (q < 64)

-- yes or no and the table t' are what the request on t comes to, where t is known to be sound and no refusal fits
pub record Served (t t' : List ℕ) (yes : Bool) (q : Request) : Type 0 where
  pub answer : yes ≡ allowed_sound (state t) q
  pub table : t' ≡ (when yes then encode (changed_sound (state t) q) else t)

-- refused for this reason where the test fails, and passed where it does not
abbrev pub RefusedFor : {A : Type 0} → Result A Refusal → Refusal → Bool → Type 0
RefusedFor result why fails = MatchResult result (λ passed. fails ≡ false) (λ r. (r ≡ why) × (fails ≡ true))
