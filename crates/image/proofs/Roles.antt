-- The roles of users, sessions and objects in an image, and what they authorise. Assumes nothing.
use Prim.Native.Nat.{ℕ, zero, suc, ◌+◌, ◌-◌, ◌^◌, ◌≤◌, ◌<◌}
use mathlib.Core.Path.{◌≡◌, sym, ap, subst, ◌∙◌}
use mathlib.Core.Bool.{true, false}
use native.Mathlib.Omega.{arith}
use Rattle.bits.specs.Words.{has, pack, ◌with◌}
use Rattle.bits.specs.Sets.{each}
use Rattle.bits.proofs.Truth.{clash, same_truth}
use Rattle.bits.proofs.Word.{has_zero, has_pack, with_lt, with_elim, with_new, with_old}
use Rattle.bits.proofs.Membership.{each_intro, each_elim}
use Rattle.table.specs.State.{State}
use Rattle.table.specs.Authority.{senior, authorised}
use Rattle.table.proofs.State.{authorised_intro, authorised_elim}
use Rattle.machine.specs.Machine.{idle, at}
use Rattle.machine.proofs.Order.{dominates, dominates_bottom}
use Rattle.image.specs.Image.{above, cleared_roles, seat_roles, granted_roles}
use Rattle.image.proofs.Above.{Over, reads, writes, over, over_above}

-- ---- who has which role

-- a word of one role, and of two
one_elim : {A : Type 0} (a r : ℕ) → r < 64 → has (0 with a) r ≡ true → (r ≡ a → A) → A
one_elim a r h e f = with_elim 0 a r h e f (λ z. clash z (has_zero r))

two_elim : {A : Type 0} (a b r : ℕ) → r < 64 → has (0 with a with b) r ≡ true → (r ≡ a → A) → (r ≡ b → A) → A
two_elim a b r h e f g = with_elim (0 with a) b r h e g (λ z. one_elim a r h z f)

module _ (c : ℕ) where
  pub cleared_elim : {A : Type 0} (r : ℕ) → r < 64 → has (cleared_roles c) r ≡ true → (r ≡ c → A) → (r ≡ 32 → A) → A
  unfolding cleared_roles
  cleared_elim r h e f g = two_elim c 32 r h e f g

  pub cleared_lt : cleared_roles c < 2 ^ 64
  unfolding cleared_roles
  cleared_lt = with_lt (0 with c) 32

  pub cleared_own : c < 64 → has (cleared_roles c) c ≡ true
  unfolding cleared_roles
  cleared_own h = with_old (0 with c) 32 c h (with_new 0 c h)

  pub cleared_write : has (cleared_roles c) 32 ≡ true
  unfolding cleared_roles
  cleared_write = with_new (0 with c) 32 (omega arith)

module _ (u y : ℕ) where
  pub seat_elim : {A : Type 0} (r : ℕ) → r < 64 → has (seat_roles (at u y)) r ≡ true → (r ≡ y → A) → (r ≡ 32 + y → A) → A
  unfolding seat_roles
  seat_elim r h e f g = two_elim y (32 + y) r h e f g

  pub seat_reads : y < 32 → has (seat_roles (at u y)) y ≡ true
  unfolding seat_roles
  seat_reads h = with_old (0 with y) (32 + y) y (omega arith) (with_new 0 y (omega arith))

  pub seat_writes : y < 32 → has (seat_roles (at u y)) (32 + y) ≡ true
  unfolding seat_roles
  seat_writes h = with_new (0 with y) (32 + y) (omega arith)

pub idle_none : (r : ℕ) → has (seat_roles idle) r ≡ false
unfolding seat_roles
idle_none r = has_zero r

module _ (l r : ℕ) where
  pub reader_is : r < 64 → has (granted_roles l 0) r ≡ true → r ≡ l
  unfolding granted_roles
  reader_is h e = one_elim l r h e (λ z. z)

  pub writer_is : r < 64 → has (granted_roles l 1) r ≡ true → r ≡ 32 + l
  unfolding granted_roles
  writer_is h e = one_elim (32 + l) r h e (λ z. z)

  pub other_none : (x : ℕ) → 2 ≤ x → has (granted_roles l x) r ≡ false
  unfolding granted_roles
  other_none zero h = absurd (omega arith)
  other_none (suc zero) h = absurd (omega arith)
  other_none (suc (suc x)) h = has_zero r

module _ (l : ℕ) (h : l < 32) where
  pub reader_has : has (granted_roles l 0) l ≡ true
  unfolding granted_roles
  reader_has = with_new 0 l (omega arith)

  pub writer_has : has (granted_roles l 1) (32 + l) ≡ true
  unfolding granted_roles
  writer_has = with_new 0 (32 + l) (omega arith)

-- ---- what a state with the seniority of the labels authorises

module _ (S : State) (f : (r : ℕ) → r < 64 → S.juniors r ≡ pack 64 (above r)) where
  pub senior_is : (r q : ℕ) → r < 64 → q < 64 → senior S r q ≡ above r q
  senior_is r q h k = ap (λ (w : ℕ). has w q) (f r h) ∙ has_pack (above r) 64 q k

  pub senior_over : (r q : ℕ) → r < 64 → q < 64 → senior S r q ≡ true → Over r q
  senior_over r q h k e = over r q (sym (senior_is r q h k) ∙ e)

  pub over_senior : {r q : ℕ} → r < 64 → q < 64 → Over r q → senior S r q ≡ true
  over_senior {r} {q} h k o = senior_is r q h k ∙ over_above o

  -- a user with the roles of clearance c may have every write role, and the read roles that c dominates
  module _ (u c : ℕ) (h : c < 32) (e : S.assigned u ≡ cleared_roles c) where
    pub authorised_write : (y : ℕ) → y < 32 → authorised S u (32 + y) ≡ true
    authorised_write y k =
        let z : (32 + y) - 32 ≡ y = omega arith in
        authorised_intro S u (32 + y) (record {
          role = 32;
          below = omega arith;
          assigned_to = ap (λ (w : ℕ). has w 32) e ∙ cleared_write c;
          senior_to = over_senior (omega arith) (omega arith) (writes (omega arith) (omega arith) (ap (λ (n : ℕ). dominates n 0) z ∙ dominates_bottom y));
        })

    pub authorised_read : (y : ℕ) → y < 32 → authorised S u y ≡ dominates c y
    authorised_read y k =
        same_truth
        (λ a.
        let d = authorised_elim S u y a in
        let v = senior_over d.role y d.below (omega arith) d.senior_to in
        cleared_elim c d.role d.below (sym (ap (λ (w : ℕ). has w d.role) e) ∙ d.assigned_to)
        (λ z. by_reading d.role z v) (λ z. by_writing d.role z v))
        (λ a. authorised_intro S u y (record {
          role = c;
          below = omega arith;
          assigned_to = ap (λ (w : ℕ). has w c) e ∙ cleared_own c (omega arith);
          senior_to = over_senior (omega arith) (omega arith) (reads h k a);
        }))
      where
        by_reading : (r : ℕ) → r ≡ c → Over r y → dominates c y ≡ true
        by_reading r z (reads l m d) = subst (λ (n : ℕ). dominates n y ≡ true) z d
        by_reading r z (writes l m d) = absurd (omega arith)

        by_writing : (r : ℕ) → r ≡ 32 → Over r y → dominates c y ≡ true
        by_writing r z (reads l m d) = absurd (omega arith)
        by_writing r z (writes l m d) = absurd (omega arith)

    -- both roles of a session at level y, where c dominates y
    pub authorised_seat : (v y : ℕ) → y < 32 → each (seat_roles (at v y)) (authorised S u) ≡ dominates c y
    authorised_seat v y k =
        same_truth
        (λ a. sym (authorised_read y k) ∙ each_elim (seat_roles (at v y)) (authorised S u) a y (omega arith) (seat_reads v y k))
        (λ d. each_intro (seat_roles (at v y)) (authorised S u) (λ r l m. seat_elim v y r l m
        (λ z. ap (authorised S u) z ∙ authorised_read y k ∙ d)
        (λ z. ap (authorised S u) z ∙ authorised_write y k)))
