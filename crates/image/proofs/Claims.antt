-- The claims of specs/Claims.antt. Assumes nothing.
use Prim.Native.Nat.{ℕ, zero, suc, ◌^◌, ◌≤◌, ◌<◌}
use mathlib.Core.Path.{◌≡◌, refl, sym, ap, ap₂, subst, ◌∙◌}
use mathlib.Core.Bool.{true, false}
use mathlib.Core.List.{List}
use native.Mathlib.Omega.{arith}
use lib.Dec.{eqb, ltb}
use borrow.Author.Tests.{eq-eqb, eqb-true, ltb-false, le-ltb}
use Rattle.bits.specs.Words.{◌and◌, has, pack}
use Rattle.bits.proofs.Truth.{clash, by_truth, is_false, and_intro, and_left, and_right, true_and, false_and}
use Rattle.bits.proofs.Below.{all_intro, all_elim}
use Rattle.bits.proofs.Word.{has_pack, pack_is, none_in}
use Rattle.table.specs.State.{State}
use Rattle.table.specs.Authority.{permission}
use Rattle.table.specs.Separation.{sets_empty}
use Rattle.table.specs.Changes.{set_masks}
use Rattle.table.specs.Masks.{MasksTrue}
use Rattle.table.specs.Sound.{Ruled}
use Rattle.table.specs.Reading.{state}
use Rattle.table.proofs.Agree.{Agree, agree_refl, agree_trans, agree_set_masks, mask_agree}
use Rattle.table.proofs.Encode.{shown, state_encode}
use Rattle.table.proofs.Seniority.{linked_closure, linked_agree}
use Rattle.table.proofs.State.{effective_elim}
use Rattle.table.proofs.Sound.{sound_ruled, sound_masks}
use Rattle.table.proofs.Masks.{mask_apart}
use Rattle.table.proofs.Table.{table_length_lem}
use Rattle.sound.proofs.Answers.{sound_state, sound_table}
use Rattle.rbac.proofs.Requests.{encode_sound, sound_encode}
use Rattle.machine.specs.Machine.{Machine}
use Rattle.image.specs.Image as image
use Rattle.image.specs.Image.{above, cleared_roles, seat_roles, granted_roles, permitted_objects}
use Rattle.image.specs.Test.{label_of, seat_of, machine_of, links_fit, permissions_fit, users_fit, objects_fit, levels_fit, is_image}
use Rattle.image.specs.Claims.{Ranged, SoundImage, ImageMeans}
use Rattle.image.proofs.Reading.{label_below, label_cleared, label_granted, owner_of, seat_read, seat_back}
use Rattle.image.proofs.Rows.{linked}
use Rattle.image.proofs.Shown.{shown_juniors, shown_direct, shown_linked, shown_true, safe_sound, sound_safe, owner_is, active_is, granted_is, assigned_is}

-- ---- soundness

pub sound_image : SoundImage
sound_image m g = (λ e. sound_safe m g (sound_ruled _ (sound_encode (image.shown m) e)), λ f. encode_sound (image.shown m) (safe_sound m g f))

-- ---- the machine read off a sound state

pub read_ranged : (S : State) → Ruled S → Ranged (machine_of S)
unfolding machine_of
read_ranged S f = record {
  clearances = λ u h. label_below (S.assigned u);
  labels = λ o h. label_below (S.granted 0 o);
  seats = λ s u y h e.
      let r = seat_read (S.owner s) (S.active s) u y e in
      let a = r.user in
      let b = f.owners_known s h in
      (omega arith, subst (λ (n : ℕ). n < 32) (sym r.level) (label_below (S.active s)));
}

-- ---- the test on a sound state of 64-bit words

module _ (S : State) (f : Ruled S) (t : MasksTrue S) (words : (x o : ℕ) → S.granted x o < 2 ^ 64) (openings : (s x : ℕ) → S.holds s x < 2 ^ 64)
    (i : is_image S ≡ true) where
  abbrev m : Machine
  m = machine_of S

  links_fit_lem : links_fit S ≡ true
  unfolding is_image
  links_fit_lem = and_left _ _ i

  after_links : permissions_fit S and users_fit S and objects_fit S and levels_fit S and sets_empty S ≡ true
  unfolding is_image
  after_links = and_right (links_fit S) _ i

  after_permissions : users_fit S and objects_fit S and levels_fit S and sets_empty S ≡ true
  after_permissions = and_right (permissions_fit S) _ after_links

  after_users : objects_fit S and levels_fit S and sets_empty S ≡ true
  after_users = and_right (users_fit S) _ after_permissions

  after_objects : levels_fit S and sets_empty S ≡ true
  after_objects = and_right (objects_fit S) _ after_users

  direct_fit : (r : ℕ) → r < 64 → S.direct r ≡ linked r
  unfolding links_fit
  direct_fit r h = eqb-true _ _ (all_elim _ 64 links_fit_lem r h)

  -- the same links make the same seniority
  juniors_fit : (r : ℕ) → r < 64 → S.juniors r ≡ pack 64 (above r)
  juniors_fit r h =
      linked_closure f.is_linked r h
      ∙ sym (linked_closure (linked_agree (shown_linked m) (λ q l. refl) (λ q l. shown_direct m q ∙ sym (direct_fit q l))) r h)
      ∙ shown_juniors m r h

  permitted_fit : (x : ℕ) → x < 8 → S.permitted x ≡ permitted_objects x
  unfolding permissions_fit
  permitted_fit x h = eqb-true _ _ (all_elim _ 8 (and_left _ _ after_links) x h)

  assigned_fit : (u : ℕ) → u < 64 → S.assigned u ≡ cleared_roles (m.clearance u)
  unfolding users_fit
  assigned_fit u h = eqb-true _ _ (all_elim _ 64 (and_left _ _ after_permissions) u h)

  object_fits : (o : ℕ) → o < 64 → eqb (S.granted 0 o) (granted_roles (m.label o) 0) and eqb (S.granted 1 o) (granted_roles (m.label o) 1) ≡ true
  unfolding objects_fit
  object_fits o h = all_elim _ 64 (and_left _ _ after_users) o h

  active_fit : (s : ℕ) → s < 32 → S.active s ≡ seat_roles (m.seat s)
  unfolding levels_fit
  active_fit s h = eqb-true _ _ (all_elim _ 32 (and_left _ _ after_objects) s h)

  -- no pair of the modes 2 to 7 is a permission
  no_permission : (x o : ℕ) → x < 8 → 2 ≤ x → o < 64 → permission S x o ≡ false
  unfolding permitted_objects
  no_permission x o hx h ho = ap (λ (w : ℕ). has w o) (permitted_fit x hx) ∙ has_pack (λ o. ltb x 2) 64 o ho ∙ le-ltb x 2 h

  granted_fit : (x o : ℕ) → x < 8 → o < 64 → S.granted x o ≡ granted_roles (m.label o) x
  unfolding granted_roles
  granted_fit zero o hx ho = eqb-true _ _ (and_left _ _ (object_fits o ho))
  granted_fit (suc zero) o hx ho = eqb-true _ _ (and_right (eqb (S.granted 0 o) (granted_roles (m.label o) 0)) _ (object_fits o ho))
  granted_fit (suc (suc x)) o hx ho =
      none_in _ (words (suc (suc x)) o) (λ r hr. is_false (λ a.
      clash (f.grants_permitted (suc (suc x)) o r hx ho hr a) (no_permission (suc (suc x)) o hx (omega arith) ho)))

  holds_fit : (s x : ℕ) → s < 32 → x < 8 → S.holds s x ≡ pack 64 (λ o. ltb x 2 and m.held s o x)
  unfolding machine_of
  holds_fit s x hs hx =
      pack_is 64 (S.holds s x) (λ o. ltb x 2 and has (S.holds s x) o) (openings s x) (λ o ho. by_truth (ltb x 2)
      (λ b. sym (true_and _ b))
      (λ b.
      is_false (λ a. clash (effective_elim S s x o (f.openings_effective s x o hs hx ho a)).permitted_pair (no_permission x o hx (ltb-false x 2 b) ho))
      ∙ sym (false_and _ b)))

  -- but for the masks
  read_apart : Agree (set_masks S (image.shown m).masks) (image.shown m)
  unfolding image.shown machine_of
  read_apart = record {
    juniors = juniors_fit;
    permitted = permitted_fit;
    assigned = assigned_fit;
    granted = granted_fit;
    owner = λ s h. sym (owner_of (S.owner s) (S.active s));
    active = active_fit;
    holds = holds_fit;
    sets = λ i h. eqb-true _ 0 (all_elim _ 64 (and_right (levels_fit S) _ after_objects) i h);
    direct = direct_fit;
    masks = λ s x hs hx. refl;
  }

  -- and these are what each session may open
  pub read_agrees : Agree S (image.shown m)
  read_agrees =
      agree_trans
      (agree_set_masks (agree_refl S) {f = S.masks} {g = (image.shown m).masks} (λ s x hs hx.
      t s x hs hx ∙ sym (mask_apart S _ s x) ∙ mask_agree read_apart s x hs hx ∙ sym (shown_true m (read_ranged S f) s x hs hx)))
      read_apart

-- ---- a state that shows the words of a machine state passes the test

module _ (S : State) (m : Machine) (g : Ranged m) (a : Agree S (image.shown m)) where
  -- the machine read off is the machine
  pub read_clearance : (u : ℕ) → u < 64 → (machine_of S).clearance u ≡ m.clearance u
  unfolding machine_of
  read_clearance u h = ap label_of (a.assigned u h ∙ assigned_is m u) ∙ label_cleared (m.clearance u) (g.clearances u h)

  read_label : (o : ℕ) → o < 64 → (machine_of S).label o ≡ m.label o
  unfolding machine_of
  read_label o h = ap label_of (a.granted 0 o (omega arith) h ∙ granted_is m 0 o) ∙ label_granted (m.label o) (g.labels o h)

  read_seat : (s : ℕ) → s < 32 → (machine_of S).seat s ≡ m.seat s
  unfolding machine_of
  read_seat s h =
      ap₂ seat_of (a.owner s h ∙ owner_is m s refl) (a.active s h ∙ active_is m s refl) ∙ seat_back (m.seat s) (λ u y e. (g.seats s u y h e).1)

  object_test : (x o : ℕ) → x < 8 → o < 64 → eqb (S.granted x o) (granted_roles ((machine_of S).label o) x) ≡ true
  object_test x o hx ho = eq-eqb _ _ (a.granted x o hx ho ∙ granted_is m x o ∙ ap (λ (l : ℕ). granted_roles l x) (sym (read_label o ho)))

  pub passes : is_image S ≡ true
  unfolding is_image links_fit permissions_fit users_fit objects_fit levels_fit image.shown
  passes =
      and_intro (all_intro _ 64 (λ r h. eq-eqb _ _ (a.direct r h)))
      (and_intro (all_intro _ 8 (λ x h. eq-eqb _ _ (a.permitted x h)))
      (and_intro (all_intro _ 64 (λ u h. eq-eqb _ _ (a.assigned u h ∙ ap cleared_roles (sym (read_clearance u h)))))
      (and_intro (all_intro _ 64 (λ o h. and_intro (object_test 0 o (omega arith) h) (object_test 1 o (omega arith) h)))
      (and_intro (all_intro _ 32 (λ s h. eq-eqb _ _ (a.active s h ∙ ap seat_roles (sym (read_seat s h)))))
      (all_intro _ 64 (λ i h. eq-eqb _ 0 (a.sets i h)))))))

pub image_means : ImageMeans
image_means t w s =
    let S = state t in
    let f = sound_ruled S (sound_state t s) in (
      λ i. record {
        machine = machine_of S;
        ranged = read_ranged S f;
        is_image = shown t (image.shown (machine_of S)) (table_length_lem t (sound_table t s)) (read_agrees S f (sound_masks S (sound_state t s)) (λ x o. w _) (λ s x. w _) i);
      },
      λ p. passes S p.machine p.ranged (subst (λ (l : List ℕ). Agree (state l) (image.shown p.machine)) (sym p.is_image) (state_encode (image.shown p.machine))),
    )
