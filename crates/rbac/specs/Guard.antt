-- The role guard on a lent table: refusals in the order of 01 and 02, then yes or no.
use Rattle.bits.specs.Words.{ℕ, Bool, true, not, List, leb, ◌and◌, ◌or◌, when◌then◌else◌, has, ◌with◌}
use Rattle.bits.specs.Sets.{each}
use Rattle.table.specs.State.{State}
use Rattle.table.specs.Authority.{idle, covers, authorised, may_activate}
use Rattle.table.specs.Masks.{refreshed, refreshed_at, refreshed_pair}
use Rattle.table.specs.Sound.{sound}
use Rattle.table.specs.Table.{is_table, encode}
use Rattle.table.specs.Reading.{state}
use Rattle.separation.specs.Answers.{sets_fit, pair_holds}
use Rattle.sound.specs.Answers.{openings_fit, sessions_fit, pair_fits}
use Rattle.links.specs.Links.{linkable, unlinkable}
use Rattle.requests.specs.Request.{Ask, Outcome, refuse, decide}
use Rattle.rbac.specs.Roles.{Request, opens, closes, starts, ends, activates, drops, assigns, deassigns, grants, revokes, separates, links, unlinks, is_code, in_range, carries_bad_pair, decode, known, allowed, moved, changed}

-- refusal 17, then yes or no by the test given, and after a yes the change given; yes or no spends 1
unfoldable pub served : (State → Request → Bool) → (State → Request → State) → List ℕ → Request → Outcome (List ℕ)
served test change t r =
    when not (known (state t) r) then refuse 17 t else
    decide (test (state t) r) 1 1 (encode (change (state t) r)) t

-- refusals 15, 16 and 21, then the request
unfoldable pub checked : (State → Request → Bool) → (State → Request → State) → List ℕ → Ask → Outcome (List ℕ)
checked test change t q =
    when not (is_code q) then refuse 15 t else
    when not (in_range q) then refuse 16 t else
    when carries_bad_pair q then refuse 21 t else
    served test change t (decode q)

-- a role request: its answer, the figure spent, and the table after it
unfoldable pub role_step : List ℕ → Ask → Outcome (List ℕ)
role_step t q =
    when not (is_table t) then refuse 12 t else
    when not (sound (state t)) then refuse 13 t else
    checked allowed changed t q

-- ---- the same on a table that is known to be sound

-- the answer is yes: an opening by its mask, and of soundness after the change only what the change can break is looked at
abbrev pub allowed_sound : State → Request → Bool
allowed_sound S (opens s o x) = has (S.masks s x) o
allowed_sound S (closes s o x) = true
allowed_sound S (starts s u roles) = idle S s and each roles (authorised S u) and sets_fit S 16 (has roles)
allowed_sound S (ends s) = not (idle S s)
allowed_sound S (activates s r) = leb (S.owner s) 64 and may_activate S s r and sets_fit S 16 (has (S.active s with r))
allowed_sound S (drops s r) = not (has (S.active s) r) or openings_fit (moved S (drops s r)) s
allowed_sound S (assigns u r) = sets_fit S 0 (covers S (S.assigned u with r))
allowed_sound S (deassigns u r) = not (has (S.assigned u) r) or sessions_fit (moved S (deassigns u r)) u
allowed_sound S (grants r x o) = true
allowed_sound S (revokes r x o) = not (has (S.granted x o) r) or pair_fits (moved S (revokes r x o)) x o
allowed_sound S (separates n roles bound) = pair_holds S n roles bound
allowed_sound S (links r q) = linkable S r q
allowed_sound S (unlinks r q) = unlinkable S r q

-- what a yes writes: of the masks only those that the request can change are worked out anew, and none where it adds a role that is
-- there or removes one that is absent
abbrev pub changed_sound : State → Request → State
changed_sound S (opens s o x) = moved S (opens s o x)
changed_sound S (closes s o x) = moved S (closes s o x)
changed_sound S (starts s u roles) = refreshed_at s (moved S (starts s u roles))
changed_sound S (ends s) = refreshed_at s (moved S (ends s))
changed_sound S (activates s r) = let T = moved S (activates s r) in when has (S.active s) r then T else refreshed_at s T
changed_sound S (drops s r) = let T = moved S (drops s r) in when has (S.active s) r then refreshed_at s T else T
changed_sound S (assigns u r) = moved S (assigns u r)
changed_sound S (deassigns u r) = moved S (deassigns u r)
changed_sound S (grants r x o) = let T = moved S (grants r x o) in when has (S.granted x o) r then T else refreshed_pair x o T
changed_sound S (revokes r x o) = let T = moved S (revokes r x o) in when has (S.granted x o) r then refreshed_pair x o T else T
changed_sound S (separates n roles bound) = moved S (separates n roles bound)
changed_sound S (links r q) = refreshed (moved S (links r q))
changed_sound S (unlinks r q) = refreshed (moved S (unlinks r q))

-- a role request without the soundness test: on a sound table it is `role_step` (Claims)
unfoldable pub sound_step : List ℕ → Ask → Outcome (List ℕ)
sound_step t q = when not (is_table t) then refuse 12 t else checked allowed_sound changed_sound t q
