-- What is claimed of the role guard, each as the answer to a question. proofs/Claims.antt proves them.
use Rattle.std.specs.Prelude.{◌↔◌, set, ◌+◌, ◌^◌, ◌<◌, ◌≡◌, ◌∷◌}
use Rattle.bits.specs.Words.{ℕ, suc, Bool, true, false, not, List, [], eqb, ◌and◌, when◌then◌else◌, has}
use Rattle.table.specs.State.{State}
use Rattle.table.specs.Authority.{senior, permission, idle, Authorised, Effective}
use Rattle.table.specs.Separation.{mask, bound, sets_empty, Fewer, Separated}
use Rattle.table.specs.Masks.{masks_true}
use Rattle.table.specs.Sound.{roles_sound, Sound}
use Rattle.table.specs.Table.{is_table}
use Rattle.table.specs.Reading.{word, owner_at, active_at, state}
use Rattle.masks.specs.Answers.{session_refreshed}
use Rattle.sound.specs.Answers.{is_sound}
use Rattle.requests.specs.Request.{Ask, ask, Outcome, refuse}
use Rattle.rbac.specs.Roles.{Request, opens, closes, starts, ends, activates, drops, assigns, deassigns, grants, revokes, separates, links, unlinks, is_code, in_range, carries_bad_pair, decode, roles_allow, known, changed}
use Rattle.rbac.specs.Guard.{checked, role_step, sound_step}
use Rattle.rbac.specs.Source.{Sigma, sigma, tau_open, tau_close, Same}

-- Does a no or a refusal change the table? Not one word, of a list of any length and contents.
abbrev pub Unchanged : Type 0
Unchanged = (t : List ℕ) (q : Ask) → ((role_step t q).answer ≡ 1 → ⊥) → (role_step t q).state ≡ t

-- Does a sound table stay sound? Under any list of requests, refused ones included.
unfoldable pub after : List ℕ → List Ask → List ℕ
after t [] = t
after t (q ∷ qs) = after (role_step t q).state qs

abbrev pub KeptSound : Type 0
KeptSound = (t : List ℕ) (qs : List Ask) → is_sound t ≡ true → is_sound (after t qs) ≡ true

-- Are duties kept apart? After any list of requests from a sound table no user's authorised roles include as many roles of a
-- static set, other than the empty pair, as its bound, and no session's active roles as many of a dynamic one (02, S-4).
abbrev pub KeptApart : Type 0
KeptApart = (t : List ℕ) (qs : List Ask) → is_sound t ≡ true → Separated (state (after t qs))

-- Do the sets change anything where none is in use? Not one answer or word, of a list of any length: there every request but codes
-- 11 and 12 comes to what it comes to in the guard of 01 with the starts, links and masks of 02, which knows no sets.
unfoldable pub plain_step : List ℕ → Ask → Outcome (List ℕ)
plain_step t q =
    when not (is_table t) then refuse 12 t else
    when not (roles_sound (state t) and masks_true (state t)) then refuse 13 t else
    checked roles_allow changed t q

abbrev pub WithoutSets : Type 0
WithoutSets = (t : List ℕ) (q : Ask) → sets_empty (state t) ≡ true → (q.code ≡ 11 → ⊥) → (q.code ≡ 12 → ⊥) → role_step t q ≡ plain_step t q

-- Does it matter that `serve` leaves the soundness test out? Not on a sound table.
abbrev pub ServedSame : Type 0
ServedSame = (t : List ℕ) (q : Ask) → is_sound t ≡ true → sound_step t q ≡ role_step t q

-- Are an opening and a closing what table 1 of source 000 says? The answer is its decision, and the state that the table
-- then shows is its next state.
pub record IsTableOne (o : Outcome (List ℕ)) (τ : Outcome Sigma) : Type 0 where
  pub decision : o.answer ≡ τ.answer
  pub next : Same (sigma (state o.state)) τ.state

abbrev pub OpenIsTableOne : Type 0
OpenIsTableOne =
    (t : List ℕ) (s o x : ℕ) → is_sound t ≡ true → s < 32 → o < 64 → x < 8
    → IsTableOne (role_step t (ask 1 s o x)) (tau_open (permission (state t)) (senior (state t)) (sigma (state t)) s o x)

abbrev pub CloseIsTableOne : Type 0
CloseIsTableOne =
    (t : List ℕ) (s o x : ℕ) → is_sound t ≡ true → s < 32 → o < 64 → x < 8
    → IsTableOne (role_step t (ask 2 s o x)) (tau_close (sigma (state t)) s o x)

-- What does a mask of a table in use say? After any list of requests from a sound table its members are exactly the objects that are
-- effective for the session in the mode (02, S-6) ...
abbrev pub MasksKept : Type 0
MasksKept =
    (t : List ℕ) (qs : List Ask) (s x o : ℕ) → is_sound t ≡ true → s < 32 → x < 8 → o < 64
    → has ((state (after t qs)).masks s x) o ≡ true ↔ Effective (state (after t qs)) s x o

-- ... and those to which an opening is answered yes.
abbrev pub OpenIsMask : Type 0
OpenIsMask =
    (t : List ℕ) (s o x : ℕ) → is_sound t ≡ true → s < 32 → o < 64 → x < 8
    → (role_step t (ask 1 s o x)).answer ≡ 1 ↔ has ((state t).masks s x) o ≡ true

-- When is a start answered yes? Where the session is idle, every role of the mask is authorised for the user (02, S-1), and the
-- mask includes fewer roles of each dynamic set than its bound (02, S-4).
pub record MayStart (S : State) (s u roles : ℕ) : Type 0 where
  pub is_idle : idle S s ≡ true
  pub all_authorised : (r : ℕ) → r < 64 → has roles r ≡ true → Authorised S u r
  pub breaks_none : (n : ℕ) → n < 16 → Fewer (mask S (16 + n)) (bound S (16 + n)) (has roles)

abbrev pub StartMeans : Type 0
StartMeans =
    (t : List ℕ) (s u roles : ℕ) → is_sound t ≡ true → s < 32 → u < 64 → roles < 2 ^ 64
    → (role_step t (ask 3 s u roles)).answer ≡ 1 ↔ MayStart (state t) s u roles

-- What does a yes to it write? The session's user and its active roles, exactly those of the mask, its eight masks of what it may
-- open, and no other word.
abbrev pub StartWrites : Type 0
StartWrites =
    (t : List ℕ) (s u roles : ℕ) → (role_step t (ask 3 s u roles)).answer ≡ 1
    → (role_step t (ask 3 s u roles)).state ≡ session_refreshed (set (set t (owner_at s) (suc u)) (active_at s) roles) s

-- the answer hangs on the table without the thing, or with the new set, being sound (01, codes 6, 8 and 10; 02, S-4, codes 11 and 12);
-- for code 14 there is `UnlinkMeans` (Seniority)
abbrev pub hangs : Request → Bool
hangs (opens s o x) = false
hangs (closes s o x) = false
hangs (starts s u roles) = false
hangs (ends s) = false
hangs (activates s r) = false
hangs (drops s r) = true
hangs (assigns u r) = false
hangs (deassigns u r) = true
hangs (grants r x o) = false
hangs (revokes r x o) = true
hangs (separates n m b) = true
hangs (links r q) = false
hangs (unlinks r q) = false

-- When is such a request that meets no refusal answered yes? Exactly where the state that it would leave, with its masks worked out
-- anew (02, S-6), is sound.
abbrev pub SoundnessDecides : Type 0
SoundnessDecides =
    (t : List ℕ) (q : Ask) → is_sound t ≡ true → is_code q ≡ true → in_range q ≡ true → carries_bad_pair q ≡ false → known (state t) (decode q) ≡ true
    → hangs (decode q) ≡ true → (role_step t q).answer ≡ 1 ↔ Sound (changed (state t) (decode q))

-- what the request adds is there, or what it removes is absent; an absent link is no to code 14 (02, S-5)
unfoldable pub idempotent : State → Request → Bool
idempotent S (opens s o x) = has (S.holds s x) o
idempotent S (closes s o x) = not (has (S.holds s x) o)
idempotent S (starts s u roles) = false
idempotent S (ends s) = false
idempotent S (activates s r) = has (S.active s) r
idempotent S (drops s r) = not (has (S.active s) r)
idempotent S (assigns u r) = has (S.assigned u) r
idempotent S (deassigns u r) = not (has (S.assigned u) r)
idempotent S (grants r x o) = has (S.granted x o) r
idempotent S (revokes r x o) = not (has (S.granted x o) r)
idempotent S (separates n m b) = eqb (mask S n) m and eqb (bound S n) b
idempotent S (links r q) = has (S.direct r) q
idempotent S (unlinks r q) = false

-- 01: "What is there already may be added again, and what is absent removed, with yes and no change."
pub record NoChange (t : List ℕ) (o : Outcome (List ℕ)) : Type 0 where
  pub yes_answer : o.answer ≡ 1
  pub same_table : o.state ≡ t

abbrev pub AddedAgain : Type 0
AddedAgain =
    (t : List ℕ) (q : Ask) → ((i : ℕ) → word t i < 2 ^ 64) → is_sound t ≡ true → is_code q ≡ true → in_range q ≡ true
    → carries_bad_pair q ≡ false → known (state t) (decode q) ≡ true → idempotent (state t) (decode q) ≡ true → NoChange t (role_step t q)
