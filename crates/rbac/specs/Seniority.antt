-- What is claimed of change of seniority at work (02, S-5), each as the answer to a question. proofs/Seniority.antt proves them.
use Rattle.std.specs.Prelude.{◌↔◌, ◌<◌, ◌≡◌, ◌∷◌}
use Rattle.bits.specs.Words.{ℕ, Bool, true, false, not, List, [], eqb, ◌and◌, when◌then◌else◌, has, pack, ◌with◌}
use Rattle.bits.specs.Sets.{◌without◌}
use Rattle.closure.specs.Closure.{Reaches}
use Rattle.table.specs.State.{State}
use Rattle.table.specs.Authority.{senior, authorised, effective}
use Rattle.table.specs.Changes.{with_direct}
use Rattle.table.specs.Seniority.{links}
use Rattle.table.specs.Separation.{Separated}
use Rattle.table.specs.Masks.{refreshed}
use Rattle.table.specs.Sound.{Sound}
use Rattle.table.specs.Reading.{state}
use Rattle.sound.specs.Answers.{is_sound}
use Rattle.requests.specs.Request.{Ask, ask}
use Rattle.rbac.specs.Guard.{role_step}
use Rattle.rbac.specs.Claims.{after}

-- ---- when is the answer yes, and what then?

-- r is another role, no chain of links leads from q to r, and no separation set would be broken
pub record MayLink (S : State) (r q : ℕ) : Type 0 where
  pub other : r ≡ q → ⊥
  pub no_way_back : Reaches (links S.direct) q r → ⊥
  pub breaks_none : Separated (with_direct S r (S.direct r with q))

-- When is code 13 answered yes? Exactly so.
abbrev pub LinkMeans : Type 0
LinkMeans =
    (t : List ℕ) (r q : ℕ) → is_sound t ≡ true → r < 64 → q < 64 → (role_step t (ask 13 r q 0)).answer ≡ 1 ↔ MayLink (state t) r q

-- the link is there, and the state without it, its masks worked out anew, would be sound
pub record MayUnlink (S : State) (r q : ℕ) : Type 0 where
  pub there : has (S.direct r) q ≡ true
  pub stays_sound : Sound (refreshed (with_direct S r (S.direct r without q)))

-- When is code 14 answered yes? Exactly so.
abbrev pub UnlinkMeans : Type 0
UnlinkMeans =
    (t : List ℕ) (r q : ℕ) → is_sound t ≡ true → r < 64 → q < 64 → (role_step t (ask 14 r q 0)).answer ≡ 1 ↔ MayUnlink (state t) r q

-- Does a yes to code 13 take anything away? From nobody: authorised roles and effective permissions only grow.
pub record Grown (S S' : State) : Type 0 where
  pub authorised_stay : (u r : ℕ) → u < 64 → r < 64 → authorised S u r ≡ true → authorised S' u r ≡ true
  pub effective_stay : (s x o : ℕ) → s < 32 → x < 8 → o < 64 → effective S s x o ≡ true → effective S' s x o ≡ true

abbrev pub LinkTakesNothing : Type 0
LinkTakesNothing = (t : List ℕ) (r q c : ℕ) → (role_step t (ask 13 r q c)).answer ≡ 1 → Grown (state t) (state (role_step t (ask 13 r q c)).state)

-- Does a yes to code 14 leave an opening that is not effective? None: what is held stays held, and is effective.
pub record Kept (S : State) (s x o : ℕ) : Type 0 where
  pub still_held : has (S.holds s x) o ≡ true
  pub still_effective : effective S s x o ≡ true

abbrev pub UnlinkKeepsOpenings : Type 0
UnlinkKeepsOpenings =
    (t : List ℕ) (r q c s x o : ℕ) → (role_step t (ask 14 r q c)).answer ≡ 1 → s < 32 → x < 8 → o < 64
    → has ((state t).holds s x) o ≡ true → Kept (state (role_step t (ask 14 r q c)).state) s x o

-- ---- after any list of requests

-- the direct juniors that each role has, by the requests and their answers alone: a yes to code 13 makes a link, a yes to code
-- 14 takes one away
unfoldable pub noted : Ask → ℕ → (ℕ → ℕ → Bool) → ℕ → ℕ → Bool
noted q answer old r p =
    when not (eqb answer 1 and eqb r q.a and eqb p q.b) then old r p else
    when eqb q.code 13 then true else
    when eqb q.code 14 then false else
    old r p

unfoldable pub recorded : (ℕ → ℕ → Bool) → List ℕ → List Ask → ℕ → ℕ → Bool
recorded old t [] = old
recorded old t (q ∷ qs) = recorded (noted q (role_step t q).answer old) (role_step t q).state qs

-- the links of the table before, and then those recorded
abbrev pub recorded_links : List ℕ → List Ask → List ℕ
recorded_links t qs = links (λ r. pack 64 (recorded (λ r p. has ((state t).direct r) p) t qs r))

-- Which roles is a role senior to, after any list of requests from a sound table? Exactly those that a chain of the links
-- recorded reaches; a chain of none reaches the role itself.
abbrev pub SeniorityReached : Type 0
SeniorityReached =
    (t : List ℕ) (qs : List Ask) (r q : ℕ) → is_sound t ≡ true → r < 64 → q < 64
    → senior (state (after t qs)) r q ≡ true ↔ Reaches (recorded_links t qs) r q
