-- The image of a machine state as a role table (01, "Labels"; Osborn, Sandhu, Munawer): role l reads label l, 32 + l writes it.
use Rattle.std.specs.Prelude.{◌+◌, ◌-◌}
use Rattle.bits.specs.Words.{ℕ, zero, suc, Bool, not, List, eqb, leb, ltb, ◌and◌, when◌then◌else◌, pack, ◌with◌}
use Rattle.table.specs.State.{State}
use Rattle.table.specs.Table.{encode}
use Rattle.machine.specs.Label.{stands, equal_or_above}
use Rattle.machine.specs.Machine.{Machine, Seat, idle, at, may_open}

-- role r is senior to role q or is q: read roles when r's label dominates q's, write roles the other way round, one of each never
unfoldable pub above : ℕ → ℕ → Bool
above r q = when ltb r 32 then ltb q 32 and equal_or_above (stands r q) else leb 32 q and equal_or_above (stands (q - 32) (r - 32))

-- the roles of a user with clearance c, and of a session
unfoldable pub cleared_roles : ℕ → ℕ
cleared_roles c = 0 with c with 32

unfoldable pub seat_roles : Seat → ℕ
seat_roles idle = 0
seat_roles (at u y) = 0 with y with (32 + y)

-- the word of a session's user
unfoldable pub seat_owner : Seat → ℕ
seat_owner idle = 0
seat_owner (at u y) = suc u

-- the roles granted an object of label l in mode x
unfoldable pub granted_roles : ℕ → ℕ → ℕ
granted_roles l zero = 0 with l
granted_roles l (suc zero) = 0 with (32 + l)
granted_roles l (suc (suc x)) = 0

-- all pairs of modes 0 and 1 are permissions, no others
unfoldable pub permitted_objects : ℕ → ℕ
permitted_objects x = pack 64 (λ o. ltb x 2)

unfoldable pub shown : Machine → State
shown m = record {
  juniors = λ r. pack 64 (above r);
  permitted = permitted_objects;
  assigned = λ u. cleared_roles (m.clearance u);
  granted = λ x o. granted_roles (m.label o) x;
  owner = λ s. seat_owner (m.seat s);
  active = λ s. seat_roles (m.seat s);
  holds = λ s x. pack 64 (λ o. ltb x 2 and m.held s o x);
  sets = λ i. 0;  -- none (02, S-4)
  direct = λ r. pack 64 (λ q. not (eqb q r) and above r q);  -- every junior but the role itself (02, S-5)
  masks = λ s x. pack 64 (λ o. ltb x 2 and may_open (m.seat s) (m.label o) x);  -- the true masks (02, S-6)
}

abbrev pub image : Machine → List ℕ
image m = encode (shown m)
