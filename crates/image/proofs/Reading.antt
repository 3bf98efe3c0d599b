-- The machine state that a table shows, word by word. Assumes nothing.
use Prim.Native.Nat.{ℕ, zero, suc, ◌+◌, ◌≤◌, ◌<◌}
use mathlib.Core.Path.{◌≡◌, refl, sym, ap, ◌∙◌}
use mathlib.Core.Bool.{true, false}
use mathlib.Core.List.{List}
use native.Mathlib.Omega.{arith}
use lib.ListN.{length}
use Rattle.bits.specs.Words.{has, ◌with◌}
use Rattle.bits.specs.Sets.{lowest}
use Rattle.bits.proofs.Truth.{is_false, and_right, true_and}
use Rattle.bits.proofs.Walk.{lowest_least}
use Rattle.table.specs.Reading.{state}
use Rattle.table.specs.Table.{table_length, is_table}
use Rattle.table.proofs.Table.{is_table_lem}
use Rattle.machine.specs.Machine.{Seat, idle, at}
use Rattle.machine.proofs.Seats.{idle_at, same_user_lem, same_level}
use Rattle.image.specs.Image.{cleared_roles, seat_owner, seat_roles, granted_roles}
use Rattle.image.specs.Test.{label_of, seat_of, is_image, shows_image}
use Rattle.image.proofs.Roles.{cleared_elim, cleared_own, seat_elim, seat_reads, reader_is, reader_has}

pub label_below : (roles : ℕ) → label_of roles < 32
unfolding label_of
label_below roles = omega arith

-- the roles of a session by the word of its user
pub idle_roles : (owner roles : ℕ) → owner ≡ 0 → seat_roles (seat_of owner roles) ≡ 0
unfolding seat_of seat_roles
idle_roles zero roles e = refl
idle_roles (suc u) roles e = absurd (omega arith)

pub busy_roles : (owner roles : ℕ) → (owner ≡ 0 → ⊥) → seat_roles (seat_of owner roles) ≡ 0 with label_of roles with (32 + label_of roles)
unfolding seat_of seat_roles
busy_roles zero roles n = absurd (n refl)
busy_roles (suc u) roles n = refl

-- ---- the labels of an image's words

label_is : (roles l : ℕ) → l < 32 → lowest roles ≡ l → label_of roles ≡ l
unfolding label_of
label_is roles l h e = omega arith

-- the lowest of roles that have l, and otherwise only what is 32 or more
from_32 : (roles l : ℕ) → l < 32 → has roles l ≡ true → ((r : ℕ) → r < 64 → has roles r ≡ true → (r ≡ l → ⊥) → 32 ≤ r) → label_of roles ≡ l
from_32 roles l h a f =
    label_is roles l h
    (lowest_least roles l (omega arith) a (λ j k. is_false (λ b. let n = f j (omega arith) b (omega arith) in omega arith)))

pub label_cleared : (c : ℕ) → c < 32 → label_of (cleared_roles c) ≡ c
label_cleared c h =
    from_32 (cleared_roles c) c h (cleared_own c (omega arith)) (λ r k a n. cleared_elim c r k a (λ z. absurd (n z)) (λ z. omega arith))

pub label_granted : (l : ℕ) → l < 32 → label_of (granted_roles l 0) ≡ l
label_granted l h =
    from_32 (granted_roles l 0) l h (reader_has l h) (λ r k a n. absurd (n (reader_is l r k a)))

pub label_seat : (u y : ℕ) → y < 32 → label_of (seat_roles (at u y)) ≡ y
label_seat u y h =
    from_32 (seat_roles (at u y)) y h (seat_reads u y h) (λ r k a n. seat_elim u y r k a (λ z. absurd (n z)) (λ z. omega arith))

-- ---- the seat of a session

pub owner_of : (owner roles : ℕ) → seat_owner (seat_of owner roles) ≡ owner
unfolding seat_owner seat_of
owner_of zero roles = refl
owner_of (suc u) roles = refl

-- the user and the level of a seat that is read off
pub record Read (owner roles u y : ℕ) : Type 0 where
  pub user : owner ≡ suc u
  pub level : y ≡ label_of roles

pub seat_read : (owner roles u y : ℕ) → seat_of owner roles ≡ at u y → Read owner roles u y
unfolding seat_of
seat_read zero roles u y e = absurd (idle_at u y e)
seat_read (suc v) roles u y e = record { user = ap suc (same_user_lem v (label_of roles) u y e); level = sym (same_level v (label_of roles) u y e) }

pub seat_back : (k : Seat) → ((u y : ℕ) → k ≡ at u y → y < 32) → seat_of (seat_owner k) (seat_roles k) ≡ k
unfolding seat_of seat_owner
seat_back idle h = refl
seat_back (at u y) h = ap (at u) (label_seat u y (h u y refl))

-- ---- the test, as the code answers it

module _ (t : List ℕ) where
  pub shows_image_lem : shows_image t ≡ true → is_image (state t) ≡ true
  unfolding shows_image
  shows_image_lem e = and_right (is_table t) _ e

  pub shows_none : length t ≡ table_length → shows_image t ≡ false → is_image (state t) ≡ false
  unfolding shows_image
  shows_none e n = sym (true_and _ (is_table_lem t e)) ∙ n
