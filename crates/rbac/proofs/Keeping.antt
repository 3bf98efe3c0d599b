-- A yes keeps a sound state sound. Assumes nothing.
use Prim.Native.Nat.{ℕ, suc, ◌<◌}
use mathlib.Core.Path.{◌≡◌, refl, sym, ap, ◌∙◌}
use mathlib.Core.Bool.{Bool, true, not}
use native.Mathlib.Omega.{arith}
use lib.Dec.{eqb}
use borrow.Author.Tests.{ne_eqb, eqb-false, not-true}
use Rattle.bits.specs.Words.{◌and◌, upd, has, ◌with◌}
use Rattle.bits.specs.Sets.{each, ◌without◌}
use Rattle.bits.proofs.Truth.{clash, and_intro, and_left, and_right}
use Rattle.bits.proofs.Word.{with_elim, with_old, without_old, without_none}
use Rattle.bits.proofs.Membership.{not_empty, each_elim}
use Rattle.table.specs.State.{State}
use Rattle.table.specs.Authority.{idle, permission, authorised, may_activate, effective}
use Rattle.table.specs.Changes.{with_assigned, with_granted, with_owner, with_active, with_holds}
use Rattle.table.specs.Separation.{separated, Separated}
use Rattle.table.specs.Masks.{refreshed}
use Rattle.table.specs.Sound.{roles_sound, sound, Ruled}
use Rattle.table.proofs.Separation.{separated_elim}
use Rattle.table.proofs.Sound.{ruled_elim, ruled_is, masks_separated, ruled_masks, refreshed_sound}
use Rattle.table.proofs.State.{may_activate_idle, may_activate_user}
use Rattle.table.proofs.Agree.{upd_same, by_upd, grid_same}
use Rattle.table.proofs.Keeps.{no_roles_none_effective, authorised_same, authorised_more, effective_more, holds_keeps, active_keeps, assigned_keeps, granted_keeps, start_keeps, end_keeps}
use Rattle.sound.proofs.Parts.{link_keeps}
use Rattle.rbac.specs.Roles.{Request, opens, closes, starts, ends, activates, drops, assigns, deassigns, grants, revokes, separates, links, unlinks, known, roles_allow, allowed, moved, changed}
use Rattle.rbac.specs.Served.{Ranged}

module _ (S : State) (f : Ruled S) where
  open_keeps : (s o x : ℕ) → s < 32 → o < 64 → x < 8 → effective S s x o ≡ true → Ruled (with_holds S s (upd (S.holds s) x (S.holds s x with o)))
  open_keeps s o x hs ho hx e =
      holds_keeps S f s _
      (λ y p hy hp m. by_upd (S.holds s) x (S.holds s x with o) (λ (w : ℕ). has w p ≡ true → effective S s y p ≡ true) y
      (λ q n. ap (λ (z : ℕ). effective S s z p) q ∙ with_elim (S.holds s x) o p hp n
      (λ j. ap (effective S s x) j ∙ e)
      (λ k. f.openings_effective s x p hs hx hp k))
      (λ q n. f.openings_effective s y p hs hy hp n) m)
      (λ y hy i. absurd (no_roles_none_effective S s x o (f.idle_no_roles s hs i) e))

  close_keeps : (s o x : ℕ) → s < 32 → x < 8 → Ruled (with_holds S s (upd (S.holds s) x (S.holds s x without o)))
  close_keeps s o x hs hx =
      holds_keeps S f s _
      (λ y p hy hp m. by_upd (S.holds s) x (S.holds s x without o) (λ (w : ℕ). has w p ≡ true → effective S s y p ≡ true) y
      (λ q n. ap (λ (z : ℕ). effective S s z p) q ∙ f.openings_effective s x p hs hx hp (without_old (S.holds s x) o p hp n))
      (λ q n. f.openings_effective s y p hs hy hp n) m)
      (λ y hy i. by_upd (S.holds s) x (S.holds s x without o) (λ (w : ℕ). w ≡ 0) y
      (λ q. ap (λ (w : ℕ). w without o) (f.idle_no_openings s x hs hx i) ∙ without_none o)
      (λ q. f.idle_no_openings s y hs hy i))

  activate_keeps : (s r : ℕ) → s < 32 → r < 64 → may_activate S s r ≡ true
      → Separated (with_active S s (S.active s with r)) → Ruled (with_active S s (S.active s with r))
  activate_keeps s r hs hr e d =
      active_keeps S f s (S.active s with r)
      (λ q hq m. with_elim (S.active s) r q hq m (λ j. ap (may_activate S s) j ∙ e) (λ k. f.active_authorised s q hs hq k))
      (λ i. clash e (may_activate_idle S s r i))
      (λ x o hx ho m. effective_more S _ (λ p q hp hq k. k) s x o refl (λ q hq k. k)
      (λ q hq k. ap (λ (w : ℕ). has w q) (upd_same S.active s (S.active s with r)) ∙ with_old (S.active s) r q hq k)
      (f.openings_effective s x o hs hx ho m))
      d

  assign_keeps : (u r : ℕ) → u < 64 → Separated (with_assigned S u (S.assigned u with r)) → Ruled (with_assigned S u (S.assigned u with r))
  assign_keeps u r hu d =
      assigned_keeps S f u (S.assigned u with r)
      (λ s q hs hq o m. authorised_more S _ (λ a b ha hb k. k) u q hq
      (λ p hp k. ap (λ (w : ℕ). has w p) (upd_same S.assigned u (S.assigned u with r)) ∙ with_old (S.assigned u) r p hp k)
      (sym (may_activate_user S s u q o) ∙ f.active_authorised s q hs hq m))
      d

  grant_keeps : (r x o : ℕ) → x < 8 → o < 64 → permission S x o ≡ true → Ruled (with_granted S x o (S.granted x o with r))
  grant_keeps r x o hx ho p =
      granted_keeps S f x o (S.granted x o with r) (λ q hq m. p)
      (λ s hs m. effective_more S _ (λ p q hp hq k. k) s x o refl
      (λ q hq k. ap (λ (w : ℕ). has w q) (grid_same S.granted x o (S.granted x o with r)) ∙ with_old (S.granted x o) r q hq k)
      (λ q hq k. k)
      (f.openings_effective s x o hs hx ho m))

  started : (s u roles : ℕ) → s < 32 → u < 64 → idle S s ≡ true → each roles (authorised S u) ≡ true
      → Separated (with_active (with_owner S s (suc u)) s roles) → Ruled (with_active (with_owner S s (suc u)) s roles)
  started s u roles hs hu i k d =
      active_keeps given (start_keeps S f s u hs hu i) s roles
      (λ r hr m. may_activate_user given s u r owned ∙ authorised_same given S refl u r refl ∙ each_elim roles (authorised S u) k r hr m)
      (λ z. clash z (ap (λ (w : ℕ). eqb w 0) owned ∙ ne_eqb (suc u) 0 (λ e. omega arith)))
      (λ x o hx ho m. absurd (not_empty (S.holds s x) o m (f.idle_no_openings s x hs hx i)))
      d
    where
      given : State
      given = with_owner S s (suc u)

      owned : given.owner s ≡ suc u
      owned = upd_same S.owner s (suc u)

-- what is asked of the state with its masks worked out anew holds of it without them
unbroken : (S : State) (b : Bool) → b and separated (refreshed S) ≡ true → Separated S
unbroken S b a = separated_elim S (sym (masks_separated S _) ∙ and_right b _ a)

ruled_again : (S : State) → roles_sound (refreshed S) and separated (refreshed S) ≡ true → Ruled S
ruled_again S a = ruled_masks _ (ruled_elim (refreshed S) (ruled_is _ ∙ a))

-- after a yes the state is sound but for its masks, and with these worked out anew it is sound
pub moved_ruled : (S : State) → Ruled S → (r : Request) → Ranged r → known S r ≡ true → allowed S r ≡ true → Ruled (moved S r)
unfolding known allowed roles_allow changed
moved_ruled S f (opens s o x) h k a = open_keeps S f s o x h.0 h.1 h.2 (and_left _ _ a)
moved_ruled S f (closes s o x) h k a = close_keeps S f s o x h.0 h.2
moved_ruled S f (starts s u roles) h k a =
    let e = and_left _ _ a in
    started S f s u roles h.0 h.1 (and_left _ _ e) (and_right (idle S s) _ e) (unbroken _ _ a)
moved_ruled S f (ends s) h k a = end_keeps S f s
moved_ruled S f (activates s r) h k a = activate_keeps S f s r h.0 h.1 (and_left _ _ a) (unbroken _ _ a)
moved_ruled S f (drops s r) h k a = ruled_again _ a
moved_ruled S f (assigns u r) h k a = assign_keeps S f u r h.0 (unbroken _ _ a)
moved_ruled S f (deassigns u r) h k a = ruled_again _ a
moved_ruled S f (grants r x o) h k a = grant_keeps S f r x o h.1 h.2 k
moved_ruled S f (revokes r x o) h k a = ruled_again _ a
moved_ruled S f (separates n m b) h k a = ruled_again _ a
moved_ruled S f (links r q) h k a =
    let e = and_left _ _ a in
    link_keeps S f r q h.0 h.1 (eqb-false r q (not-true _ (and_left _ _ e))) (not-true _ (and_right (not (eqb r q)) _ e)) (unbroken _ _ a)
moved_ruled S f (unlinks r q) h k a = ruled_again _ (and_intro (and_right (has (S.direct r) q) _ (and_left _ _ a)) (and_right _ _ a))

pub changed_sound_lem : (S : State) → Ruled S → (r : Request) → Ranged r → known S r ≡ true → allowed S r ≡ true → sound (changed S r) ≡ true
unfolding changed
changed_sound_lem S f r h k a = refreshed_sound (moved_ruled S f r h k a)
