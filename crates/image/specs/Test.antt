-- The machine state that a table shows, and the test that a sound table is its image.
use Rattle.std.specs.Prelude.{◌%◌, ◌<◌, ◌≡◌}
use Rattle.bits.specs.Words.{ℕ, zero, suc, Bool, not, List, eqb, ◌and◌, has, all, pack}
use Rattle.bits.specs.Sets.{lowest}
use Rattle.table.specs.State.{State}
use Rattle.table.specs.Separation.{sets_empty}
use Rattle.table.specs.Table.{is_table}
use Rattle.table.specs.Reading.{state}
use Rattle.machine.specs.Machine.{Machine, Seat, idle, at}
use Rattle.image.specs.Image.{above, cleared_roles, seat_roles, granted_roles, permitted_objects}

-- the label that the lowest role of a word reads or writes; 0 for an empty word
unfoldable pub label_of : ℕ → ℕ
label_of roles = lowest roles % 32

-- the seat that the word of a session's user and its active roles show
unfoldable pub seat_of : ℕ → ℕ → Seat
seat_of zero roles = idle
seat_of (suc u) roles = at u (label_of roles)

-- the machine state that a state shows: each clearance, label and level is that of the lowest role
unfoldable pub machine_of : State → Machine
machine_of S = record {
  clearance = λ u. label_of (S.assigned u);
  label = λ o. label_of (S.granted 0 o);
  seat = λ s. seat_of (S.owner s) (S.active s);
  held = λ s o x. has (S.holds s x) o;
}

-- ---- the test

-- the direct juniors of a role are all that the labels put below it, but the role itself (02, S-5)
unfoldable pub links_fit : State → Bool
links_fit S = all 64 (λ r. eqb (S.direct r) (pack 64 (λ q. not (eqb q r) and above r q)))

-- the permissions are those of modes 0 and 1
unfoldable pub permissions_fit : State → Bool
permissions_fit S = all 8 (λ x. eqb (S.permitted x) (permitted_objects x))

-- every user is assigned exactly a clearance role and role 32
unfoldable pub users_fit : State → Bool
users_fit S = all 64 (λ u. eqb (S.assigned u) (cleared_roles ((machine_of S).clearance u)))

-- every object is granted in mode 0 to the read role of one label alone, and in mode 1 to its write role alone
unfoldable pub objects_fit : State → Bool
objects_fit S =
    all 64 (λ o.
    eqb (S.granted 0 o) (granted_roles ((machine_of S).label o) 0)
    and eqb (S.granted 1 o) (granted_roles ((machine_of S).label o) 1))

-- every session that is not idle has exactly the two roles of one level active, and an idle one none
unfoldable pub levels_fit : State → Bool
levels_fit S = all 32 (λ s. eqb (S.active s) (seat_roles ((machine_of S).seat s)))

-- a sound state is the image of the machine state that it shows; it has no separation sets (02, S-4). Its seniority is what its
-- links make of it, its masks are true, the users of its sessions and its openings are the machine's, whatever they are; and
-- where modes 2 to 7 have no permissions, nothing is granted or open in them.
unfoldable pub is_image : State → Bool
is_image S = links_fit S and permissions_fit S and users_fit S and objects_fit S and levels_fit S and sets_empty S

-- what `is_image` answers: no for a list that is no table
unfoldable pub shows_image : List ℕ → Bool
shows_image t = is_table t and is_image (state t)

-- what `label_of` answers: a label, and a bound
pub record IsLabel (roles l : ℕ) : Type 0 where
  pub is : l ≡ label_of roles
  pub below : l < 32
