-- What is effective in the image of a machine state, and when the image is sound. Assumes nothing.
use Prim.Native.Nat.{ℕ, zero, suc, ◌+◌, ◌-◌, ◌^◌, ◌≤◌, ◌<◌}
use mathlib.Core.Path.{◌≡◌, refl, sym, ap, ap₂, subst, ◌∙◌}
use mathlib.Core.Bool.{true}
use native.Mathlib.Omega.{arith}
use lib.Dec.{eqb, ltb}
use borrow.Author.Tests.{ne_eqb, eqb-true, lt-ltb, ltb-true, ltb-false}
use Rattle.bits.specs.Words.{◌and◌, when◌then◌else◌, has, pack}
use Rattle.bits.specs.Sets.{◌without◌}
use Rattle.bits.proofs.Truth.{clash, by_truth, is_false, same_truth, and_intro, and_left, and_right, true_and, false_and}
use Rattle.bits.proofs.Below.{all_intro}
use Rattle.bits.proofs.Word.{has_pack, pack_lt, pack_cong, pack_none}
use Rattle.table.specs.Authority.{senior, permission, idle, may_activate, effective}
use Rattle.table.specs.Seniority.{Linked}
use Rattle.table.specs.Separation.{sets_empty}
use Rattle.table.specs.Masks.{mask_of, MasksTrue}
use Rattle.table.specs.Sound.{sound, Ruled}
use Rattle.table.proofs.Sound.{sound_intro}
use Rattle.table.proofs.Seniority.{juniors_linked, linked_agree}
use Rattle.table.proofs.Separation.{separated_elim, empty_separated}
use Rattle.table.proofs.State.{effective_intro, effective_elim, may_activate_user}
use Rattle.machine.proofs.Order.{dominates}
use Rattle.machine.specs.Machine as machine
use Rattle.machine.specs.Machine.{Machine, Seat, at, may_open}
use Rattle.image.specs.Image.{above, cleared_roles, seat_roles, seat_owner, granted_roles, permitted_objects, shown}
use Rattle.image.specs.Claims.{Ranged, Safe}
use Rattle.image.proofs.Above.{Over, reads, writes, over, over_above, over_refl, over_trans, over_antisym}
use Rattle.image.proofs.Rows.{linked, others_linked}
use Rattle.image.proofs.Roles.{seat_elim, seat_reads, seat_writes, idle_none, reader_is, writer_is, other_none, reader_has, writer_has, senior_over, over_senior, authorised_write, authorised_read}

module _ (m : Machine) where
  pub shown_juniors : (r : ℕ) → r < 64 → (shown m).juniors r ≡ pack 64 (above r)
  unfolding shown
  shown_juniors r h = refl

  permission_is : (x o : ℕ) → o < 64 → permission (shown m) x o ≡ ltb x 2
  unfolding shown permitted_objects
  permission_is x o h = has_pack (λ o. ltb x 2) 64 o h

  pub holds_is : (s x o : ℕ) → o < 64 → has ((shown m).holds s x) o ≡ ltb x 2 and m.held s o x
  unfolding shown
  holds_is s x o h = has_pack (λ o. ltb x 2 and m.held s o x) 64 o h

  pub no_sets : sets_empty (shown m) ≡ true
  unfolding shown
  no_sets = all_intro _ 64 (λ i h. refl)

  -- ---- its links

  pub shown_direct : (r : ℕ) → (shown m).direct r ≡ linked r
  unfolding shown
  shown_direct r = refl

  senior_is : (r q : ℕ) → r < 64 → q < 64 → senior (shown m) r q ≡ above r q
  senior_is r q hr hq = ap (λ (w : ℕ). has w q) (shown_juniors r hr) ∙ has_pack (above r) 64 q hq

  pub shown_linked : Linked (shown m).juniors (shown m).direct
  shown_linked =
      linked_agree
      (juniors_linked (shown m).juniors
      (λ r h. subst (λ (n : ℕ). n < 2 ^ 64) (sym (shown_juniors r h)) (pack_lt (above r) 64))
      (λ r h. senior_is r r h h ∙ over_above (over_refl r))
      (λ r q p hr hq hp a b.
      senior_is r p hr hp ∙ over_above (over_trans (over r q (sym (senior_is r q hr hq) ∙ a)) (over q p (sym (senior_is q p hq hp) ∙ b)))))
      (λ r h. refl)
      (λ r h. ap (λ (w : ℕ). w without r) (shown_juniors r h) ∙ others_linked r ∙ sym (shown_direct r))

  -- ---- a session by its seat

  pub owner_is : (s : ℕ) {k : Seat} → m.seat s ≡ k → (shown m).owner s ≡ seat_owner k
  unfolding shown
  owner_is s e = ap seat_owner e

  pub active_is : (s : ℕ) {k : Seat} → m.seat s ≡ k → (shown m).active s ≡ seat_roles k
  unfolding shown
  active_is s e = ap seat_roles e

  has_active : (s r : ℕ) {k : Seat} → m.seat s ≡ k → has ((shown m).active s) r ≡ has (seat_roles k) r
  has_active s r e = ap (λ (w : ℕ). has w r) (active_is s e)

  pub granted_is : (x o : ℕ) → (shown m).granted x o ≡ granted_roles (m.label o) x
  unfolding shown
  granted_is x o = refl

  pub seated : (s u y : ℕ) → m.seat s ≡ at u y → (shown m).owner s ≡ suc u
  unfolding seat_owner
  seated s u y e = owner_is s e

  no_roles : seat_roles machine.idle ≡ 0
  unfolding seat_roles
  no_roles = refl

  pub assigned_is : (u : ℕ) → (shown m).assigned u ≡ cleared_roles (m.clearance u)
  unfolding shown
  assigned_is u = refl

  no_seat : (s : ℕ) → idle (shown m) s ≡ true → (k : Seat) → m.seat s ≡ k → k ≡ machine.idle
  unfolding seat_owner
  no_seat s i machine.idle e = refl
  no_seat s i (at u y) e = let z : (shown m).owner s ≡ 0 = eqb-true _ 0 i in let w = seated s u y e in absurd (omega arith)

  pub idle_shown : (s : ℕ) → idle (shown m) s ≡ machine.is_idle (m.seat s)
  unfolding shown
  idle_shown s = no_owner (m.seat s)
    where
      no_owner : (k : Seat) → eqb (seat_owner k) 0 ≡ machine.is_idle k
      no_owner machine.idle = unfold seat_owner machine.is_idle in refl
      no_owner (at u y) = unfold seat_owner machine.is_idle in ne_eqb (suc u) 0 (omega arith)

  module _ (g : Ranged m) where
    -- ---- what is effective

    -- what the machine lets a session open is effective for it
    opens_back : (s o : ℕ) → s < 32 → o < 64 → (k : Seat) → m.seat s ≡ k → (x : ℕ) → x < 2 → may_open k (m.label o) x ≡ true
        → effective (shown m) s x o ≡ true
    unfolding may_open when◌then◌else◌
    opens_back s o hs ho machine.idle e x hx a = clash a refl
    opens_back s o hs ho (at u y) e zero hx a =
        let hy : y < 32 = (g.seats s u y hs e).1 in
        let hl : m.label o < 32 = g.labels o ho in
        effective_intro (shown m) s 0 o (record {
          permitted_pair = permission_is 0 o ho;
          role = y;
          below = omega arith;
          active_in = has_active s y e ∙ seat_reads u y hy;
          junior = m.label o;
          junior_below = omega arith;
          senior_to = over_senior (shown m) shown_juniors (omega arith) (omega arith) (reads hy hl a);
          granted_to = ap (λ (w : ℕ). has w (m.label o)) (granted_is 0 o) ∙ reader_has (m.label o) hl;
        })
    opens_back s o hs ho (at u y) e (suc zero) hx a =
        let hy : y < 32 = (g.seats s u y hs e).1 in
        let hl : m.label o < 32 = g.labels o ho in
        let ey : (32 + y) - 32 ≡ y = omega arith in
        let el : (32 + m.label o) - 32 ≡ m.label o = omega arith in
        effective_intro (shown m) s 1 o (record {
          permitted_pair = permission_is 1 o ho;
          role = 32 + y;
          below = omega arith;
          active_in = has_active s (32 + y) e ∙ seat_writes u y hy;
          junior = 32 + m.label o;
          junior_below = omega arith;
          senior_to = over_senior (shown m) shown_juniors (omega arith) (omega arith) (writes (omega arith) (omega arith) (ap₂ dominates el ey ∙ a));
          granted_to = ap (λ (w : ℕ). has w (32 + m.label o)) (granted_is 1 o) ∙ writer_has (m.label o) hl;
        })
    opens_back s o hs ho (at u y) e (suc (suc x)) hx a = absurd (omega arith)

    -- and nothing else is
    by_grant : (u y o r q : ℕ) → y < 32 → o < 64 → q < 64 → has (seat_roles (at u y)) r ≡ true → r < 64 → Over r q
        → (x : ℕ) → has (granted_roles (m.label o) x) q ≡ true → (x < 2) × (may_open (at u y) (m.label o) x ≡ true)
    unfolding may_open when◌then◌else◌
    by_grant u y o r q hy ho hq a hr v zero b = (omega arith, seat_elim u y r hr a (λ z. reading z v) (λ z. crossing z v))
      where
        e : q ≡ m.label o
        e = reader_is (m.label o) q hq b

        reading : r ≡ y → Over r q → dominates y (m.label o) ≡ true
        reading z (reads i j d) = ap₂ dominates (sym z) (sym e) ∙ d
        reading z (writes i j d) = absurd (let n = hy in omega arith)

        crossing : r ≡ 32 + y → Over r q → dominates y (m.label o) ≡ true
        crossing z (reads i j d) = absurd (omega arith)
        crossing z (writes i j d) = let n = g.labels o ho in let w = e in absurd (omega arith)
    by_grant u y o r q hy ho hq a hr v (suc zero) b = (omega arith, seat_elim u y r hr a (λ z. crossing z v) (λ z. writing z v))
      where
        e : q ≡ 32 + m.label o
        e = writer_is (m.label o) q hq b

        writing : r ≡ 32 + y → Over r q → dominates (m.label o) y ≡ true
        writing z (reads i j d) = absurd (omega arith)
        writing z (writes i j d) =
            let w = e in
            let p : m.label o ≡ q - 32 = omega arith in
            let n : y ≡ r - 32 = omega arith in
            ap₂ dominates p n ∙ d

        crossing : r ≡ y → Over r q → dominates (m.label o) y ≡ true
        crossing z (reads i j d) = let w = e in absurd (omega arith)
        crossing z (writes i j d) = absurd (let n = hy in omega arith)
    by_grant u y o r q hy ho hq a hr v (suc (suc x)) b = clash b (other_none (m.label o) q (suc (suc x)) (omega arith))

    opens_there : (s x o : ℕ) → s < 32 → o < 64 → (k : Seat) → m.seat s ≡ k → effective (shown m) s x o ≡ true
        → (x < 2) × (may_open k (m.label o) x ≡ true)
    opens_there s x o hs ho machine.idle e a =
        let f = effective_elim (shown m) s x o a in clash (sym (has_active s f.role e) ∙ f.active_in) (idle_none f.role)
    opens_there s x o hs ho (at u y) e a =
        let f = effective_elim (shown m) s x o a in
        by_grant u y o f.role f.junior (g.seats s u y hs e).1 ho f.junior_below
        (sym (has_active s f.role e) ∙ f.active_in) f.below
        (senior_over (shown m) shown_juniors f.role f.junior f.below f.junior_below f.senior_to)
        x (sym (ap (λ (w : ℕ). has w f.junior) (granted_is x o)) ∙ f.granted_to)

    pub effective_shown : (s x o : ℕ) → s < 32 → x < 2 → o < 64 → effective (shown m) s x o ≡ may_open (m.seat s) (m.label o) x
    effective_shown s x o hs hx ho =
        same_truth (λ a. (opens_there s x o hs ho (m.seat s) refl a).1) (opens_back s o hs ho (m.seat s) refl x hx)

    -- so the masks are what each session may open
    pub shown_true : MasksTrue (shown m)
    unfolding shown mask_of
    shown_true s x hs hx =
        pack_cong 64 (λ o ho. by_truth (ltb x 2)
        (λ b. true_and _ b ∙ sym (effective_shown s x o hs (ltb-true x 2 b) ho))
        (λ b. false_and _ b ∙ sym (is_false (λ e. clash (effective_elim (shown m) s x o e).permitted_pair (permission_is x o ho ∙ b)))))

    -- ---- which level is cleared

    pub level_authorised : (s u y : ℕ) → s < 32 → m.seat s ≡ at u y → may_activate (shown m) s y ≡ dominates (m.clearance u) y
    level_authorised s u y hs e =
        let h = g.seats s u y hs e in
        may_activate_user (shown m) s u y (seated s u y e)
        ∙ authorised_read (shown m) shown_juniors u (m.clearance u) (g.clearances u h.0) (assigned_is u) y h.1

    pub write_authorised : (s u y : ℕ) → s < 32 → m.seat s ≡ at u y → may_activate (shown m) s (32 + y) ≡ true
    write_authorised s u y hs e =
        let h = g.seats s u y hs e in
        may_activate_user (shown m) s u (32 + y) (seated s u y e)
        ∙ authorised_write (shown m) shown_juniors u (m.clearance u) (g.clearances u h.0) (assigned_is u) y h.1

    -- ---- a safe state has a sound image

    permitted_grant : (x o r : ℕ) → o < 64 → has ((shown m).granted x o) r ≡ true → permission (shown m) x o ≡ true
    permitted_grant x o r ho a =
        permission_is x o ho
        ∙ by_truth (ltb x 2) (λ b. b)
        (λ b. clash (sym (ap (λ (w : ℕ). has w r) (granted_is x o)) ∙ a) (other_none (m.label o) r x (ltb-false x 2 b)))

    owner_known : (s : ℕ) → s < 32 → (k : Seat) → m.seat s ≡ k → seat_owner k ≤ 64
    unfolding seat_owner
    owner_known s hs machine.idle e = omega arith
    owner_known s hs (at u y) e = (g.seats s u y hs e).0

    module _ (f : Safe m) where
      nothing_open : (s x : ℕ) → s < 32 → m.seat s ≡ machine.idle → (shown m).holds s x ≡ 0
      unfolding shown may_open
      nothing_open s x hs e =
          pack_none 64 (λ o ho. is_false (λ a.
          clash (f.openings s o x hs ho (ltb-true x 2 (and_left _ _ a)) (and_right (ltb x 2) _ a)) (ap (λ (k : Seat). may_open k (m.label o) x) e)))

      role_authorised : (s r : ℕ) → s < 32 → r < 64 → (k : Seat) → m.seat s ≡ k → has (seat_roles k) r ≡ true → may_activate (shown m) s r ≡ true
      role_authorised s r hs hr machine.idle e a = clash a (idle_none r)
      role_authorised s r hs hr (at u y) e a =
          seat_elim u y r hr a
          (λ z. ap (may_activate (shown m) s) z ∙ level_authorised s u y hs e ∙ f.cleared s u y hs e)
          (λ z. ap (may_activate (shown m) s) z ∙ write_authorised s u y hs e)

      opening_effective : (s x o : ℕ) → s < 32 → o < 64 → has ((shown m).holds s x) o ≡ true → effective (shown m) s x o ≡ true
      opening_effective s x o hs ho a =
          let b = sym (holds_is s x o ho) ∙ a in
          let hx = ltb-true x 2 (and_left _ _ b) in
          effective_shown s x o hs hx ho ∙ f.openings s o x hs ho hx (and_right (ltb x 2) _ b)

      safe_ruled : Ruled (shown m)
      safe_ruled = record {
        is_reflexive = λ r h. over_senior (shown m) shown_juniors h h (over_refl r);
        is_transitive = λ r q p hr hq hp a b.
            over_senior (shown m) shown_juniors hr hp (over_trans (junior_of r q hr hq a) (junior_of q p hq hp b));
        is_antisymmetric = λ r q hr hq a b. over_antisym (junior_of r q hr hq a) (junior_of q r hq hr b);
        grants_permitted = λ x o r hx ho hr a. permitted_grant x o r ho a;
        owners_known = λ s hs. subst (λ (n : ℕ). n ≤ 64) (sym (owner_is s refl)) (owner_known s hs (m.seat s) refl);
        idle_no_roles = λ s hs i. active_is s (no_seat s i (m.seat s) refl) ∙ no_roles;
        idle_no_openings = λ s x hs hx i. nothing_open s x hs (no_seat s i (m.seat s) refl);
        active_authorised = λ s r hs hr a. role_authorised s r hs hr (m.seat s) refl (sym (has_active s r refl) ∙ a);
        openings_effective = λ s x o hs hx ho a. opening_effective s x o hs ho a;
        is_linked = shown_linked;
        is_separated = separated_elim (shown m) (empty_separated (shown m) no_sets);
      }
        where
          junior_of : (r q : ℕ) → r < 64 → q < 64 → senior (shown m) r q ≡ true → Over r q
          junior_of r q h k a = senior_over (shown m) shown_juniors r q h k a

      pub safe_sound : sound (shown m) ≡ true
      safe_sound = sound_intro (shown m) safe_ruled shown_true

    -- ---- a state with a sound image is safe

    module _ (f : Ruled (shown m)) where
      pub sound_safe : Safe m
      sound_safe = record {
        cleared = λ s u y hs e.
            let hy = (g.seats s u y hs e).1 in
            sym (level_authorised s u y hs e) ∙ f.active_authorised s y hs (omega arith) (has_active s y e ∙ seat_reads u y hy);
        openings = λ s o x hs ho hx a.
            sym (effective_shown s x o hs hx ho)
            ∙ f.openings_effective s x o hs (omega arith) ho (holds_is s x o ho ∙ and_intro (lt-ltb x 2 hx) a);
      }
