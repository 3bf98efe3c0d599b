-- The Bell-LaPadula machine of 01 ("Labels"). Users and objects are 0 to 63, sessions and labels 0 to 31, modes 0 and 1.
use Rattle.std.specs.Prelude.{◌-◌, ◌∷◌}
use Rattle.bits.specs.Words.{ℕ, Bool, true, false, not, List, [], eqb, leb, get_or, ◌and◌, ◌implies◌, when◌then◌else◌, upd, all}
use Rattle.requests.specs.Request.{Ask, Outcome, refuse, decide, within}
use Rattle.machine.specs.Label.{stands, equal_or_above}

-- a session is idle, or it has a user and a level
pub data Seat : Type 0 where
  idle : Seat
  at : (user level : ℕ) → Seat

-- clearances of users; labels of objects, which no request changes; seats of sessions; and what they hold open
pub record Machine : Type 0 where
  pub clearance : (user : ℕ) → ℕ
  pub label : (object : ℕ) → ℕ
  pub seat : (session : ℕ) → Seat
  pub held : (session object mode : ℕ) → Bool

-- the machine at its start: the clearances and labels of a set-up, all sessions idle and nothing open
unfoldable pub begin : List ℕ → List ℕ → Machine
begin clearances labels =
    record { clearance = λ u. get_or clearances u 0; label = λ o. get_or labels o 0; seat = λ s. idle; held = λ s o x. false }

pub data Request : Type 0 where
  opening closing : (s o x : ℕ) → Request
  starting : (s u y : ℕ) → Request
  ending : (s : ℕ) → Request
  reclearing : (u c : ℕ) → Request

unfoldable pub is_code : Ask → Bool
is_code q = leb 1 q.code and leb q.code 5

-- the largest value of each argument, a row for each code from 1 on; one that is not listed must be 0
unfoldable pub limits : List (List ℕ)
limits = (31 ∷ 63 ∷ 1 ∷ []) ∷ (31 ∷ 63 ∷ 1 ∷ []) ∷ (31 ∷ 63 ∷ 31 ∷ []) ∷ (31 ∷ 0 ∷ 0 ∷ []) ∷ (63 ∷ 31 ∷ 0 ∷ []) ∷ []

unfoldable pub in_range : Ask → Bool
in_range q = within (get_or limits (q.code - 1) []) q

-- the request of a code from 1 to 5, in their order
unfoldable pub decode : Ask → Request
decode q =
    get_or (opening q.a q.b q.c ∷ closing q.a q.b q.c ∷ starting q.a q.b q.c ∷ ending q.a ∷ [])
    (q.code - 1) (reclearing q.a q.b)

unfoldable pub is_idle : Seat → Bool
is_idle idle = true
is_idle (at u y) = false

-- a session may open an object of label l: mode 0 reads what its level dominates, 1 writes what dominates it, without reading
unfoldable pub may_open : Seat → ℕ → ℕ → Bool
may_open idle l x = false
may_open (at u y) l x = when eqb x 0 then equal_or_above (stands y l) else equal_or_above (stands l y)

-- c dominates the level of the session, if it is one of user u
unfoldable pub fits : ℕ → ℕ → Seat → Bool
fits u c idle = true
fits u c (at v y) = eqb v u implies equal_or_above (stands c y)

-- the answer is yes
unfoldable pub allowed : Machine → Request → Bool
allowed m (opening s o x) = may_open (m.seat s) (m.label o) x
allowed m (closing s o x) = true
allowed m (starting s u y) = is_idle (m.seat s) and equal_or_above (stands (m.clearance u) y)
allowed m (ending s) = not (is_idle (m.seat s))
allowed m (reclearing u c) = all 32 (λ s. fits u c (m.seat s))

-- session s in another seat; with other openings; with o held in mode x, or no longer; user u with another clearance
abbrev pub with_seat : Machine → ℕ → Seat → Machine
with_seat m s k = record { clearance = m.clearance; label = m.label; seat = upd m.seat s k; held = m.held }

abbrev pub with_openings : Machine → ℕ → (ℕ → ℕ → Bool) → Machine
with_openings m s f = record { clearance = m.clearance; label = m.label; seat = m.seat; held = upd m.held s f }

abbrev pub with_held : Machine → ℕ → ℕ → ℕ → Bool → Machine
with_held m s o x b = with_openings m s (λ q y. when eqb q o and eqb y x then b else m.held s q y)

abbrev pub with_clearance : Machine → ℕ → ℕ → Machine
with_clearance m u c = record { clearance = upd m.clearance u c; label = m.label; seat = m.seat; held = m.held }

-- the state after a yes
unfoldable pub next : Machine → Request → Machine
next m (opening s o x) = with_held m s o x true
next m (closing s o x) = with_held m s o x false
next m (starting s u y) = with_seat m s (at u y)
next m (ending s) = with_openings (with_seat m s idle) s (λ o x. false)
next m (reclearing u c) = with_clearance m u c

-- the figure that goes with yes or no; 1 for every start (02, S-1)
unfoldable pub figure : Machine → Request → Bool → ℕ
figure m (opening s o x) b = 1
figure m (closing s o x) b = 1
figure m (starting s u y) b = 1
figure m (ending s) b = 1
figure m (reclearing u c) b = when eqb (m.clearance u) c then 0 else (when b then 2 else 3)

unfoldable pub act : Machine → Request → Outcome Machine
act m r = decide (allowed m r) (figure m r true) (figure m r false) (next m r) m

-- refusals 15 and 16, then the request
unfoldable pub step : Machine → Ask → Outcome Machine
step m q =
    when not (is_code q) then refuse 15 m else
    when not (in_range q) then refuse 16 m else
    act m (decode q)
