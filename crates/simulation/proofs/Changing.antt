-- The states that the role requests of a label request lead to, beside the images of the machine's next states. Assumes
-- nothing.
use Prim.Native.Nat.{ℕ, ◌^◌, ◌<◌}
use mathlib.Core.Path.{◌≡◌, refl, sym, ap, subst, ◌∙◌}
use mathlib.Core.Bool.{Bool, true, false, not}
use native.Mathlib.Omega.{arith}
use lib.Dec.{eqb, ltb}
use borrow.Author.Tests.{eq-eqb, ne_eqb, eqb-true, eqb-false, lt-ltb}
use Rattle.bits.specs.Words.{◌and◌, when◌then◌else◌, upd, has, pack, ◌with◌}
use Rattle.bits.specs.Sets.{◌without◌}
use Rattle.bits.proofs.Truth.{by_truth, same_truth, true_and, false_and, and_false, and_intro, if_true, if_false, false_or, not_intro}
use Rattle.bits.proofs.Word.{has_with, has_without, pack_is, pack_cong, with_lt, without_lt, same_members, with_elim, with_new, with_old, without_old, without_other, without_keeps}
use Rattle.table.specs.State.{State}
use Rattle.table.specs.Changes.{set_masks, with_assigned, with_owner, with_active, with_holds}
use Rattle.table.specs.Masks.{mask_of, refreshed_at}
use Rattle.table.proofs.Agree.{Agree, agree_refl, agree_sym, agree_trans, agree_set_assigned, agree_set_owner, agree_set_active, agree_set_holds, agree_set_masks, mask_agree, upd_same, upd_other, agree_with_holds, agree_own_assigned, by_upd}
use Rattle.table.proofs.Masks.{mask_apart}
use Rattle.bits.proofs.Upd.{upd_ap, upd_twice}
use Rattle.machine.specs.Machine as machine
use Rattle.machine.specs.Machine.{Machine, Seat, at, may_open, with_seat, with_openings, with_held, with_clearance}
use Rattle.machine.proofs.Seats.{idle_at, same_user_lem, same_level}
use Rattle.image.specs.Claims.{Ranged}
use Rattle.image.specs.Image.{cleared_roles, seat_owner, seat_roles, shown}
use Rattle.image.proofs.Roles.{cleared_lt, cleared_elim, cleared_own, cleared_write}
use Rattle.image.proofs.Shown.{holds_is, assigned_is, shown_true}

-- ---- the image of each change of the machine

-- another seat: but for the masks, and with those of its session worked out anew
module _ (m : Machine) (s : ℕ) (k : Seat) where
  abbrev seated : State
  seated = with_active (with_owner (shown m) s (seat_owner k)) s (seat_roles k)

  abbrev next : State
  next = shown (with_seat m s k)

  seat_apart : Agree (set_masks seated next.masks) next
  unfolding shown
  seat_apart =
      agree_set_active (agree_set_owner (agree_refl (set_masks (shown m) next.masks))
      (λ p h. upd_ap seat_owner m.seat s k p))
      (λ p h. upd_ap seat_roles m.seat s k p)

  other_masks : (p x : ℕ) → (p ≡ s → ⊥) → (shown m).masks p x ≡ next.masks p x
  unfolding shown
  other_masks p x n = ap (λ (j : Seat). pack 64 (λ o. ltb x 2 and may_open j (m.label o) x)) (sym (upd_other m.seat s k p n))

  pub seat_agrees : Ranged (with_seat m s k) → Agree (refreshed_at s seated) next
  seat_agrees g =
      agree_trans
      (agree_set_masks (agree_refl seated) (λ p x hp hx.
      by_upd (shown m).masks s (mask_of seated s) (λ (f : ℕ → ℕ). f x ≡ next.masks p x) p
      (λ e.
      sym (mask_apart seated _ s x) ∙ mask_agree seat_apart s x (subst (λ (i : ℕ). i < 32) e hp) hx
      ∙ sym (ap (λ (i : ℕ). mask_of next i x) e) ∙ sym (shown_true (with_seat m s k) g p x hp hx))
      (other_masks p x)))
      seat_apart

module _ (m : Machine) where
  pub openings_agree : (s : ℕ) (f : ℕ → ℕ → Bool)
      → Agree (with_holds (shown m) s (λ x. pack 64 (λ o. ltb x 2 and f o x))) (shown (with_openings m s f))
  unfolding shown
  openings_agree s f =
      agree_set_holds (agree_refl (shown m)) (λ p x h k.
      ap (λ (w : ℕ → ℕ). w x) (upd_ap {B = ℕ → ℕ} (λ (g : ℕ → ℕ → Bool) y. pack 64 (λ o. ltb y 2 and g o y)) m.held s f p))

  pub clearance_agrees : (u c : ℕ) → Agree (with_assigned (shown m) u (cleared_roles c)) (shown (with_clearance m u c))
  unfolding shown
  clearance_agrees u c = agree_set_assigned (agree_refl (shown m)) (λ v h. upd_ap cleared_roles m.clearance u c v)

-- the machine with another seat is in range

-- the seat of a session after one seat was changed
by_seat : {A : Type 0} (seat : ℕ → Seat) (t : ℕ) (new : Seat) (s u y : ℕ) → upd seat t new s ≡ at u y → (new ≡ at u y → A) → (seat s ≡ at u y → A) → A
by_seat seat t new s u y p f h =
    by_truth (eqb s t)
    (λ e. f (sym (ap (upd seat t new) (eqb-true s t e) ∙ upd_same seat t new) ∙ p))
    (λ e. h (sym (upd_other seat t new s (eqb-false s t e)) ∙ p))

module _ (m : Machine) (g : Ranged m) (s : ℕ) where
  seat_ranged : (k : Seat) → ((u y : ℕ) → k ≡ at u y → (u < 64) × (y < 32)) → Ranged (with_seat m s k)
  seat_ranged k h = record {
    clearances = g.clearances;
    labels = g.labels;
    seats = λ p u y l e. by_seat m.seat s k p u y e (h u y) (g.seats p u y l);
  }

  pub seated_ranged : (u y : ℕ) → u < 64 → y < 32 → Ranged (with_seat m s (at u y))
  seated_ranged u y hu hy = seat_ranged (at u y) (λ v z e. let b = same_user_lem u y v z e in let c = same_level u y v z e in (omega arith, omega arith))

  pub idle_ranged : Ranged (with_seat m s machine.idle)
  idle_ranged = seat_ranged machine.idle (λ u y e. absurd (idle_at u y e))

-- ---- openings

-- a word of openings in which o is a member or not, and the others are as they were
module _ (m : Machine) (s o x : ℕ) (hx : x < 2) (b : Bool) (w : ℕ) (word : w < 2 ^ 64) (own : has w o ≡ b)
    (other : (p : ℕ) → p < 64 → (p ≡ o → ⊥) → has w p ≡ has ((shown m).holds s x) p) where
  abbrev held : ℕ → ℕ → Bool
  held q y = when eqb q o and eqb y x then b else m.held s q y

  member : (q : ℕ) → q < 64 → has w q ≡ ltb x 2 and held q x
  member q h =
      by_truth (eqb q o)
      (λ e.
      ap (has w) (eqb-true q o e) ∙ own
      ∙ sym (true_and _ (lt-ltb x 2 hx) ∙ if_true b (m.held s q x) (and_intro e (eq-eqb x x refl))))
      (λ e.
      other q h (eqb-false q o e)
      ∙ holds_is m s x q h
      ∙ ap (λ (c : Bool). ltb x 2 and c) (sym (if_false b (m.held s q x) (false_and (eqb x x) e))))

  words : (y : ℕ) → upd ((shown m).holds s) x w y ≡ pack 64 (λ q. ltb y 2 and held q y)
  unfolding shown
  words y =
      by_upd ((shown m).holds s) x w (λ (v : ℕ). v ≡ pack 64 (λ q. ltb y 2 and held q y)) y
      (λ e. pack_is 64 w (λ q. ltb x 2 and held q x) word member ∙ sym (ap (λ (j : ℕ). pack 64 (λ q. ltb j 2 and held q j)) e))
      (λ n. pack_cong 64 (λ q h. ap (λ (c : Bool). ltb y 2 and c) (sym (if_false b (m.held s q y) (and_false (eqb q o) (ne_eqb y x n))))))

  pub held_agrees : Agree (with_holds (shown m) s (upd ((shown m).holds s) x w)) (shown (with_held m s o x b))
  held_agrees = agree_trans (agree_with_holds (agree_refl (shown m)) s (λ y h. words y)) (openings_agree m s held)

module _ (m : Machine) (s o x : ℕ) (ho : o < 64) (hx : x < 2) where
  abbrev old : ℕ
  old = (shown m).holds s x

  pub opened_agrees : Agree (with_holds (shown m) s (upd ((shown m).holds s) x (old with o))) (shown (with_held m s o x true))
  opened_agrees =
      held_agrees m s o x hx true (old with o) (with_lt old o) (with_new old o ho)
      (λ p h n. has_with old o p h ∙ false_or _ (ne_eqb p o n))

  pub closed_agrees : Agree (with_holds (shown m) s (upd ((shown m).holds s) x (old without o))) (shown (with_held m s o x false))
  closed_agrees =
      held_agrees m s o x hx false (old without o) (without_lt old o)
      (has_without old o o ho ∙ false_and _ (ap not (eq-eqb o o refl)))
      (λ p h n. has_without old o p h ∙ true_and _ (not_intro (ne_eqb p o n)))

-- ---- clearances

module _ (k c : ℕ) (hk : k < 32) (hc : c < 32) (n : k ≡ c → ⊥) where
  -- the new clearance role given and the old one taken
  pub roles_changed : (cleared_roles k with c) without k ≡ cleared_roles c
  roles_changed =
      same_members _ _ (without_lt (cleared_roles k with c) k) (cleared_lt c) (λ r h. same_truth
      (λ a. with_elim (cleared_roles k) c r h (without_old (cleared_roles k with c) k r h a)
      (λ z. subst (λ (i : ℕ). has (cleared_roles c) i ≡ true) (sym z) (cleared_own c (omega arith)))
      (λ d. cleared_elim k r h d
      (λ z. absurd (without_other (cleared_roles k with c) k r h a z))
      (λ z. subst (λ (i : ℕ). has (cleared_roles c) i ≡ true) (sym z) (cleared_write c))))
      (λ a. cleared_elim c r h a
      (λ z. without_keeps (cleared_roles k with c) k r h (λ y. n (sym y ∙ z)) (subst (λ (i : ℕ). has (cleared_roles k with c) i ≡ true) (sym z) (with_new (cleared_roles k) c (omega arith))))
      (λ z. without_keeps (cleared_roles k with c) k r h (λ y. omega arith) (with_old (cleared_roles k) c r h (subst (λ (i : ℕ). has (cleared_roles k) i ≡ true) (sym z) (cleared_write k))))))

  -- and taken back
  pub roles_back : (cleared_roles k with c) without c ≡ cleared_roles k
  roles_back =
      same_members _ _ (without_lt (cleared_roles k with c) c) (cleared_lt k) (λ r h. same_truth
      (λ a. with_elim (cleared_roles k) c r h (without_old (cleared_roles k with c) c r h a)
      (λ z. absurd (without_other (cleared_roles k with c) c r h a z)) (λ d. d))
      (λ a. without_keeps (cleared_roles k with c) c r h
      (λ z. cleared_elim k r h a (λ y. n (sym y ∙ z)) (λ y. omega arith)) (with_old (cleared_roles k) c r h a)))

pub cleared_agrees : (m : Machine) (u c w w' : ℕ) → w' ≡ cleared_roles c
    → Agree (with_assigned (with_assigned (shown m) u w) u w') (shown (with_clearance m u c))
cleared_agrees m u c w w' e =
    agree_trans
    (agree_set_assigned (agree_refl (shown m)) (λ v h. upd_twice (shown m).assigned u w w' v ∙ ap (λ (n : ℕ). upd (shown m).assigned u n v) e))
    (clearance_agrees m u c)

-- the clearance that a user has already
pub own_clearance : (m : Machine) (u c : ℕ) → c ≡ m.clearance u → Agree (shown (with_clearance m u c)) (shown m)
own_clearance m u c e =
    agree_trans (agree_sym (clearance_agrees m u c)) (agree_own_assigned (shown m) u (ap cleared_roles e ∙ sym (assigned_is m u)))
