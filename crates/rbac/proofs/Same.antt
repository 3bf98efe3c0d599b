-- On a sound table the request without the soundness test is the request. Assumes nothing.
use Prim.Native.Nat.{ℕ, suc}
use mathlib.Core.Path.{◌≡◌, refl, sym, ap, ap₂, ◌∙◌}
use mathlib.Core.Bool.{Bool, true, false, not}
use lib.Dec.{eqb}
use mathlib.Core.List.{List}
use borrow.Author.Tests.{le-leb}
use Rattle.bits.specs.Words.{◌and◌, has}
use Rattle.bits.specs.Sets.{each}
use Rattle.bits.proofs.Truth.{by_truth, and_left, true_and, and_true, and_assoc}
use Rattle.table.specs.State.{State}
use Rattle.table.specs.Authority.{senior, idle, authorised, may_activate}
use Rattle.table.specs.Changes.{with_owner, with_set}
use Rattle.table.specs.Separation.{separated, Separated}
use Rattle.table.specs.Masks.{refreshed, MasksTrue}
use Rattle.table.specs.Sound.{roles_sound, ruled, sound, Ruled}
use Rattle.table.specs.Table.{is_table, encode}
use Rattle.table.specs.Reading.{state}
use Rattle.table.proofs.Separation.{separated_intro}
use Rattle.table.proofs.Masks.{mask_has}
use Rattle.table.proofs.Sound.{ruled_intro, ruled_is, sound_ruled, sound_masks, sets_roles_sound, masks_roles_sound, masks_separated}
use Rattle.table.proofs.Encode.{encode_cong}
use Rattle.table.proofs.Keeps.{same_separated, ended_separated}
use Rattle.separation.proofs.Parts.{active_fits, assigned_fits, pair_fits_lem}
use Rattle.sound.proofs.Parts.{drop_ruled, deassign_ruled, revoke_ruled}
use Rattle.links.proofs.Links.{linkable_is, unlinkable_is}
use Rattle.requests.specs.Request.{Ask, decide}
use Rattle.rbac.specs.Roles.{Request, opens, closes, starts, ends, activates, drops, assigns, deassigns, grants, revokes, separates, links, unlinks, is_code, in_range, carries_bad_pair, decode, known, roles_allow, allowed, changed}
use Rattle.rbac.specs.Guard.{served, checked, role_step, allowed_sound, changed_sound, sound_step}
use Rattle.rbac.specs.Served.{Ranged}
use Rattle.rbac.proofs.Serving.{served_known, served_unknown}
use Rattle.rbac.proofs.Masks.{changed_same}
use Rattle.rbac.proofs.Codes.{is_code_elim, ranged}
use Rattle.rbac.proofs.Guarding.{checked_code, checked_argument, checked_pair, checked_served, sound_step_table, role_step_sound}

-- where a request cannot break a set
unbroken : (S : State) {b : Bool} → Separated S → b ≡ b and separated (refreshed S)
unbroken S {b} d = sym (and_true b (masks_separated S _ ∙ separated_intro S d))

-- a new set leaves what 01 asks
new_set : (S : State) → Ruled S → (n m b : ℕ) → roles_sound (refreshed (with_set S n m b)) ≡ true
new_set S f n m b = masks_roles_sound _ _ ∙ sets_roles_sound S _ ∙ and_left _ _ (sym (ruled_is S) ∙ ruled_intro S f)

-- all but the masks, of the state with its masks worked out anew
anew : (S : State) → ruled S ≡ roles_sound (refreshed S) and separated (refreshed S)
anew S = ruled_is S ∙ sym (ap₂ ◌and◌ (masks_roles_sound S _) (masks_separated S _))

pub allowed_same : (S : State) → Ruled S → MasksTrue S → (r : Request) → Ranged r → allowed_sound S r ≡ allowed S r
unfolding allowed roles_allow changed
allowed_same S f m (opens s o x) h =
    ap (λ (w : ℕ). has w o) (m s x h.0 h.2) ∙ mask_has S s x o h.1 ∙ unbroken _ (same_separated S _ f.is_separated refl refl refl refl)
allowed_same S f m (closes s o x) h = unbroken _ (same_separated S _ f.is_separated refl refl refl refl)
allowed_same S f m (starts s u roles) h =
    sym (and_assoc (idle S s) _ _)
    ∙ ap (λ (b : Bool). (idle S s and each roles (authorised S u)) and b)
    (sym (masks_separated _ _ ∙ active_fits (with_owner S s (suc u)) (same_separated S _ f.is_separated refl refl refl refl) s roles h.0))
allowed_same S f m (ends s) h = unbroken _ (ended_separated S f.is_separated s)
allowed_same S f m (activates s r) h =
    true_and _ (le-leb (S.owner s) 64 (f.owners_known s h.0))
    ∙ ap (λ (b : Bool). may_activate S s r and b) (sym (masks_separated _ _ ∙ active_fits S f.is_separated s _ h.0))
allowed_same S f m (drops s r) h = sym (drop_ruled S f s r h.0) ∙ anew _
allowed_same S f m (assigns u r) h = sym (true_and _ refl ∙ masks_separated _ _ ∙ assigned_fits S f.is_separated u _ h.0)
allowed_same S f m (deassigns u r) h = sym (deassign_ruled S f u r h.0) ∙ anew _
allowed_same S f m (grants r x o) h = unbroken _ (same_separated S _ f.is_separated refl refl refl refl)
allowed_same S f m (revokes r x o) h = sym (revoke_ruled S f r x o h.1 h.2) ∙ anew _
allowed_same S f m (separates n k b) h = sym (true_and _ (new_set S f n k b) ∙ masks_separated _ _ ∙ pair_fits_lem S f.is_separated n k b h.0 h.1)
allowed_same S f m (links r q) h = linkable_is S f r q ∙ ap (λ (b : Bool). (not (eqb r q) and not (senior S q r)) and b) (sym (masks_separated _ _))
allowed_same S f m (unlinks r q) h =
    unlinkable_is S f r q h.0 h.1 ∙ ap (λ (b : Bool). has (S.direct r) q and b) (anew _) ∙ sym (and_assoc (has (S.direct r) q) _ _)

-- two tests, and two changes, that agree on a request that meets no refusal
module _ (test test' : State → Request → Bool) (change change' : State → Request → State) (t : List ℕ) where
  served_by : (r : Request) → test (state t) r ≡ test' (state t) r → encode (change (state t) r) ≡ encode (change' (state t) r)
      → served test change t r ≡ served test' change' t r
  served_by r e d =
      by_truth (known (state t) r)
      (λ k. served_known test change t r k ∙ ap₂ (λ (b : Bool) (l : List ℕ). decide b 1 1 l t) e d ∙ sym (served_known test' change' t r k))
      (λ k. served_unknown test change t r k ∙ sym (served_unknown test' change' t r k))

  pub checked_by : (q : Ask)
      → (is_code q ≡ true → in_range q ≡ true → carries_bad_pair q ≡ false → test (state t) (decode q) ≡ test' (state t) (decode q))
      → (is_code q ≡ true → in_range q ≡ true → carries_bad_pair q ≡ false → encode (change (state t) (decode q)) ≡ encode (change' (state t) (decode q)))
      → checked test change t q ≡ checked test' change' t q
  checked_by q e d =
      by_truth (is_code q)
      (λ c. by_truth (in_range q)
      (λ i. by_truth (carries_bad_pair q)
      (λ b. checked_pair test change t q c i b ∙ sym (checked_pair test' change' t q c i b))
      (λ b. checked_served test change t q c i b ∙ served_by (decode q) (e c i b) (d c i b) ∙ sym (checked_served test' change' t q c i b)))
      (λ i. checked_argument test change t q c i ∙ sym (checked_argument test' change' t q c i)))
      (λ c. checked_code test change t q c ∙ sym (checked_code test' change' t q c))

pub step_same : (t : List ℕ) (q : Ask) → is_table t ≡ true → sound (state t) ≡ true → sound_step t q ≡ role_step t q
step_same t q i s =
    sound_step_table t q i
    ∙ checked_by allowed_sound allowed changed_sound changed t q
    (λ c r b. allowed_same (state t) (sound_ruled (state t) s) (sound_masks (state t) s) (decode q) (reach c r b))
    (λ c r b. encode_cong (changed_same (state t) (sound_masks (state t) s) (decode q) (reach c r b)))
    ∙ sym (role_step_sound t q i s)
  where
    reach : is_code q ≡ true → in_range q ≡ true → carries_bad_pair q ≡ false → Ranged (decode q)
    reach c r b = let k = is_code_elim q c in ranged q.code q.a q.b q.c k.0 k.1 r b
