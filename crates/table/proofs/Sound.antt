-- Soundness and its plain facts: each from the other, with the masks and without them. Nothing else opens the definition. Assumes nothing.
use Prim.Native.Nat.{ℕ, ◌<◌}
use mathlib.Core.Path.{◌≡◌, refl, sym, ap₂, ◌∙◌}
use mathlib.Core.Bool.{true}
use lib.Dec.{eqb}
use borrow.Author.Tests.{eqb-true, eq-eqb, leb-true, le-leb}
use Rattle.bits.specs.Words.{◌and◌, all}
use Rattle.bits.proofs.Truth.{and_intro, and_left, and_right, implies_intro, implies_elim}
use Rattle.bits.proofs.Below.{all_intro, all_elim}
use Rattle.bits.proofs.Membership.{each_intro, each_elim}
use Rattle.table.specs.State.{State}
use Rattle.table.specs.Authority.{senior, idle, covers, authorised, may_activate, effective}
use Rattle.table.specs.Changes.{set_sets, set_masks}
use Rattle.table.specs.Seniority.{own_clear, closed}
use Rattle.table.specs.Separation.{separated}
use Rattle.table.specs.Sound.{reflexive, transitive, antisymmetric, grants_permitted, owners_known, idle_empty, active_authorised, openings_effective, roles_sound, ruled, sound, Ruled}
use Rattle.table.proofs.Seniority.{linked_elim, own_clear_intro, closed_intro}
use Rattle.table.specs.Masks.{mask_of, masks_true, refreshed, MasksTrue}
use Rattle.table.proofs.Separation.{separated_elim, separated_intro}
use Rattle.table.proofs.Masks.{masks_elim, masks_intro, refreshed_true}

module _ (S : State) where
  pub reflexive_elim : reflexive S ≡ true → (r : ℕ) → r < 64 → senior S r r ≡ true
  unfolding reflexive
  reflexive_elim e r h = all_elim _ 64 e r h

  pub transitive_elim : transitive S ≡ true → (r q p : ℕ) → r < 64 → q < 64 → p < 64
      → senior S r q ≡ true → senior S q p ≡ true → senior S r p ≡ true
  unfolding transitive
  transitive_elim e r q p hr hq hp a b = each_elim _ _ (each_elim _ _ (all_elim _ 64 e r hr) q hq a) p hp b

  pub ruled_elim : ruled S ≡ true → Ruled S
  unfolding ruled roles_sound reflexive transitive antisymmetric grants_permitted owners_known idle_empty active_authorised openings_effective
  ruled_elim e =
      let e1 = and_left (roles_sound S) _ e in
      let e2 = and_right (reflexive S) _ e1 in
      let e3 = and_right (transitive S) _ e2 in
      let e4 = and_right (antisymmetric S) _ e3 in
      let e5 = and_right (grants_permitted S) _ e4 in
      let e6 = and_right (owners_known S) _ e5 in
      let e7 = and_right (idle_empty S) _ e6 in
      let e8 = and_right (active_authorised S) _ e7 in
      let e9 = and_right (openings_effective S) _ e8 in
      let empty : (s : ℕ) → s < 32 → idle S s ≡ true → eqb (S.active s) 0 and all 8 (λ x. eqb (S.holds s x) 0) ≡ true =
      λ s h i. implies_elim (idle S s) _ (all_elim _ 32 (and_left (idle_empty S) _ e6) s h) i in
      record {
        is_reflexive = reflexive_elim (and_left (reflexive S) _ e1);
        is_transitive = transitive_elim (and_left (transitive S) _ e2);
        is_antisymmetric = λ r q hr hq a b.
            eqb-true r q (implies_elim (senior S q r) _ (each_elim _ _ (all_elim _ 64 (and_left (antisymmetric S) _ e3) r hr) q hq a) b);
        grants_permitted = λ x o r hx ho hr m.
            each_elim _ _ (all_elim _ 64 (all_elim _ 8 (and_left (grants_permitted S) _ e4) x hx) o ho) r hr m;
        owners_known = λ s h. leb-true (S.owner s) 64 (all_elim _ 32 (and_left (owners_known S) _ e5) s h);
        idle_no_roles = λ s h i. eqb-true (S.active s) 0 (and_left (eqb (S.active s) 0) _ (empty s h i));
        idle_no_openings = λ s x hs hx i.
            eqb-true (S.holds s x) 0 (all_elim _ 8 (and_right (eqb (S.active s) 0) _ (empty s hs i)) x hx);
        active_authorised = λ s r hs hr m. each_elim _ _ (all_elim _ 32 (and_left (active_authorised S) _ e7) s hs) r hr m;
        openings_effective = λ s x o hs hx ho m.
            each_elim _ _ (all_elim _ 8 (all_elim _ 32 (and_left (openings_effective S) _ e8) s hs) x hx) o ho m;
        is_linked = linked_elim S (and_left (own_clear S) _ e9) (and_right (own_clear S) _ e9);
        is_separated = separated_elim S (and_right (roles_sound S) _ e);
      }

  pub ruled_intro : Ruled S → ruled S ≡ true
  unfolding ruled roles_sound reflexive transitive antisymmetric grants_permitted owners_known idle_empty active_authorised openings_effective
  ruled_intro f =
      and_intro
      (and_intro (all_intro _ 64 f.is_reflexive)
      (and_intro (all_intro _ 64 (λ r hr. each_intro _ _ (λ q hq a. each_intro _ _ (λ p hp b. f.is_transitive r q p hr hq hp a b))))
      (and_intro
      (all_intro _ 64 (λ r hr. each_intro _ _ (λ q hq a.
      implies_intro (senior S q r) _ (λ b. eq-eqb r q (f.is_antisymmetric r q hr hq a b)))))
      (and_intro
      (all_intro _ 8 (λ x hx. all_intro _ 64 (λ o ho. each_intro _ _ (λ r hr m. f.grants_permitted x o r hx ho hr m))))
      (and_intro (all_intro _ 32 (λ s h. le-leb (S.owner s) 64 (f.owners_known s h)))
      (and_intro
      (all_intro _ 32 (λ s hs. implies_intro (idle S s) _ (λ i.
      and_intro (eq-eqb (S.active s) 0 (f.idle_no_roles s hs i))
      (all_intro _ 8 (λ x hx. eq-eqb (S.holds s x) 0 (f.idle_no_openings s x hs hx i))))))
      (and_intro (all_intro _ 32 (λ s hs. each_intro _ _ (λ r hr m. f.active_authorised s r hs hr m)))
      (and_intro (all_intro _ 32 (λ s hs. all_intro _ 8 (λ x hx. each_intro _ _ (λ o ho m. f.openings_effective s x o hs hx ho m))))
      (and_intro (own_clear_intro S f.is_linked) (closed_intro S f.is_linked))))))))))
      (separated_intro S f.is_separated)

  -- ---- with the masks

  pub sound_ruled : sound S ≡ true → Ruled S
  unfolding sound
  sound_ruled e = ruled_elim (and_left (ruled S) _ e)

  pub sound_masks : sound S ≡ true → MasksTrue S
  unfolding sound
  sound_masks e = masks_elim S (and_right (ruled S) _ e)

  pub sound_intro : Ruled S → MasksTrue S → sound S ≡ true
  unfolding sound
  sound_intro f m = and_intro (ruled_intro f) (masks_intro S m)

-- what 01 asks and the links, and the sets
pub ruled_is : (S : State) → ruled S ≡ roles_sound S and separated S
unfolding ruled
ruled_is S = refl

pub sound_is : (S : State) → sound S ≡ ruled S and masks_true S
unfolding sound
sound_is S = refl

-- 01 asks nothing of the sets
pub sets_roles_sound : (S : State) (f : ℕ → ℕ) → roles_sound (set_sets S f) ≡ roles_sound S
unfolding roles_sound reflexive transitive antisymmetric grants_permitted owners_known idle_empty active_authorised openings_effective own_clear closed covers authorised may_activate effective
sets_roles_sound S f = refl

-- nor do 01 and the sets ask anything of the masks
pub masks_roles_sound : (S : State) (f : ℕ → ℕ → ℕ) → roles_sound (set_masks S f) ≡ roles_sound S
unfolding roles_sound reflexive transitive antisymmetric grants_permitted owners_known idle_empty active_authorised openings_effective own_clear closed covers authorised may_activate effective
masks_roles_sound S f = refl

pub masks_separated : (S : State) (f : ℕ → ℕ → ℕ) → separated (set_masks S f) ≡ separated S
unfolding separated covers authorised
masks_separated S f = refl

-- a state that is sound but for its masks stays so with other masks, and with its masks worked out anew it is sound
pub masks_ruled : {S : State} (f : ℕ → ℕ → ℕ) → Ruled S → Ruled (set_masks S f)
masks_ruled {S} f g =
    ruled_elim (set_masks S f) (ruled_is _ ∙ ap₂ ◌and◌ (masks_roles_sound S f) (masks_separated S f) ∙ sym (ruled_is S) ∙ ruled_intro S g)

pub ruled_masks : {S : State} (f : ℕ → ℕ → ℕ) → Ruled (set_masks S f) → Ruled S
ruled_masks {S} f g =
    ruled_elim S (ruled_is S ∙ ap₂ ◌and◌ (sym (masks_roles_sound S f)) (sym (masks_separated S f)) ∙ sym (ruled_is _) ∙ ruled_intro (set_masks S f) g)

pub refreshed_sound : {S : State} → Ruled S → sound (refreshed S) ≡ true
refreshed_sound {S} f = sound_intro (refreshed S) (masks_ruled (mask_of S) f) (refreshed_true S)
