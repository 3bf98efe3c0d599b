-- The role requests: the table of 01 ("Role requests"), a line for each of codes 1 to 10, start with its roles chosen (02, S-1);
-- the two that replace a separation set, codes 11 and 12 (02, S-4); and the two that make and take away a link of seniority,
-- codes 13 and 14 (02, S-5).
use Rattle.std.specs.Prelude.{◌+◌, ◌-◌, ◌∷◌}
use Rattle.bits.specs.Words.{ℕ, suc, Bool, true, not, List, [], eqb, leb, get_or, ◌and◌, ◌or◌, upd, has, ◌with◌}
use Rattle.bits.specs.Sets.{each, ◌without◌}
use Rattle.table.specs.State.{State}
use Rattle.table.specs.Authority.{senior, permission, idle, authorised, may_activate, effective}
use Rattle.table.specs.Changes.{with_assigned, with_granted, with_owner, with_active, with_holds, with_set, with_direct}
use Rattle.table.specs.Masks.{refreshed}
use Rattle.table.specs.Separation.{bad_pair, separated}
use Rattle.table.specs.Sound.{roles_sound}
use Rattle.requests.specs.Request.{Ask, within}

pub data Request : Type 0 where
  opens closes : (s o x : ℕ) → Request
  starts : (s u roles : ℕ) → Request
  ends : (s : ℕ) → Request
  activates drops : (s r : ℕ) → Request
  assigns deassigns : (u r : ℕ) → Request
  grants revokes : (r x o : ℕ) → Request
  separates : (n roles bound : ℕ) → Request
  links unlinks : (r q : ℕ) → Request

-- ---- codes and arguments

-- the code is 1 to 14
unfoldable pub is_code : Ask → Bool
is_code q = leb 1 q.code and leb q.code 14

-- the largest value of each argument, a row for each code from 1 on; one that is not listed must be 0, and the roles of a start
-- and the roles and the bound of a set are any 64-bit numbers
unfoldable pub limits : List (List ℕ)
limits =
    (31 ∷ 63 ∷ 7 ∷ [])
    ∷ (31 ∷ 63 ∷ 7 ∷ [])
    ∷ (31 ∷ 63 ∷ 18446744073709551615 ∷ [])
    ∷ (31 ∷ 0 ∷ 0 ∷ [])
    ∷ (31 ∷ 63 ∷ 0 ∷ [])
    ∷ (31 ∷ 63 ∷ 0 ∷ [])
    ∷ (63 ∷ 63 ∷ 0 ∷ [])
    ∷ (63 ∷ 63 ∷ 0 ∷ [])
    ∷ (63 ∷ 7 ∷ 63 ∷ [])
    ∷ (63 ∷ 7 ∷ 63 ∷ [])
    ∷ (15 ∷ 18446744073709551615 ∷ 18446744073709551615 ∷ [])
    ∷ (15 ∷ 18446744073709551615 ∷ 18446744073709551615 ∷ [])
    ∷ (63 ∷ 63 ∷ 0 ∷ [])
    ∷ (63 ∷ 63 ∷ 0 ∷ [])
    ∷ []

unfoldable pub in_range : Ask → Bool
in_range q = within (get_or limits (q.code - 1) []) q

-- codes 11 and 12 carry a pair, and it is one of error 21
unfoldable pub carries_bad_pair : Ask → Bool
carries_bad_pair q = (eqb q.code 11 or eqb q.code 12) and bad_pair q.b q.c

-- the request of a code from 1 to 14; static set n is pair n, dynamic set n is pair 16 + n
unfoldable pub decode : Ask → Request
decode q =
    get_or
    (opens q.a q.b q.c
    ∷ closes q.a q.b q.c
    ∷ starts q.a q.b q.c
    ∷ ends q.a
    ∷ activates q.a q.b
    ∷ drops q.a q.b
    ∷ assigns q.a q.b
    ∷ deassigns q.a q.b
    ∷ grants q.a q.b q.c
    ∷ revokes q.a q.b q.c
    ∷ separates q.a q.b q.c
    ∷ separates (16 + q.a) q.b q.c
    ∷ links q.a q.b
    ∷ unlinks q.a q.b
    ∷ [])
    (q.code - 1)
    (unlinks q.a q.b)

-- ---- what each request does

-- the state after a yes, but for the masks
abbrev pub moved : State → Request → State
moved S (opens s o x) = with_holds S s (upd (S.holds s) x (S.holds s x with o))
moved S (closes s o x) = with_holds S s (upd (S.holds s) x (S.holds s x without o))
moved S (starts s u roles) = with_active (with_owner S s (suc u)) s roles
moved S (ends s) = with_holds (with_active (with_owner S s 0) s 0) s (λ x. 0)
moved S (activates s r) = with_active S s (S.active s with r)
moved S (drops s r) = with_active S s (S.active s without r)
moved S (assigns u r) = with_assigned S u (S.assigned u with r)
moved S (deassigns u r) = with_assigned S u (S.assigned u without r)
moved S (grants r x o) = with_granted S x o (S.granted x o with r)
moved S (revokes r x o) = with_granted S x o (S.granted x o without r)
moved S (separates n roles bound) = with_set S n roles bound
moved S (links r q) = with_direct S r (S.direct r with q)
moved S (unlinks r q) = with_direct S r (S.direct r without q)

-- 02, S-6: a yes leaves all masks true, and "where a yes hangs on a changed table being sound, that table is taken with its masks
-- worked out anew"
unfoldable pub changed : State → Request → State
changed S r = refreshed (moved S r)

-- the answer is yes by the rules of 01 and of 02, S-1 and S-5, the sets left aside
unfoldable pub roles_allow : State → Request → Bool
roles_allow S (opens s o x) = effective S s x o
roles_allow S (closes s o x) = true
roles_allow S (starts s u roles) = idle S s and each roles (authorised S u)
roles_allow S (ends s) = not (idle S s)
roles_allow S (activates s r) = may_activate S s r
roles_allow S (drops s r) = roles_sound (changed S (drops s r))
roles_allow S (assigns u r) = true
roles_allow S (deassigns u r) = roles_sound (changed S (deassigns u r))
roles_allow S (grants r x o) = true
roles_allow S (revokes r x o) = roles_sound (changed S (revokes r x o))
roles_allow S (separates n roles bound) = roles_sound (changed S (separates n roles bound))
roles_allow S (links r q) = not (eqb r q) and not (senior S q r)
roles_allow S (unlinks r q) = has (S.direct r) q and roles_sound (changed S (unlinks r q))

-- 02, S-4: and no set would be broken. Of a sound state only a start, an activation, an assignment, a new set and a link can
-- break one.
unfoldable pub allowed : State → Request → Bool
allowed S r = roles_allow S r and separated (changed S r)

-- the pair is a permission, where the request is a grant or a revoke; else true
unfoldable pub known : State → Request → Bool
known S (opens s o x) = true
known S (closes s o x) = true
known S (starts s u roles) = true
known S (ends s) = true
known S (activates s r) = true
known S (drops s r) = true
known S (assigns u r) = true
known S (deassigns u r) = true
known S (grants r x o) = permission S x o
known S (revokes r x o) = permission S x o
known S (separates n roles bound) = true
known S (links r q) = true
known S (unlinks r q) = true
