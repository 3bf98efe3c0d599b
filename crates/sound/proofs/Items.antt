-- The items of the soundness test: a sound state passes each of them, and a separated state that passes all is sound. Assumes nothing.
use Prim.Native.Nat.{ℕ, ◌^◌, ◌≤◌, ◌<◌}
use mathlib.Core.Path.{◌≡◌, sym, ap, subst, ◌∙◌}
use mathlib.Core.Bool.{Bool, true, false, not}
use native.Mathlib.Omega.{arith}
use lib.Dec.{eqb}
use borrow.Author.Tests.{eqb-true, eqb-false, eq-eqb, ne_eqb, leb-true, le-leb, lt-leb, not-true}
use Rattle.bits.specs.Words.{◌or◌, has, subset, pack, ◌with◌}
use Rattle.bits.specs.Sets.{some, lowest}
use Rattle.bits.proofs.Truth.{clash, by_truth, is_false, same_truth, not_intro, and_intro, and_left, and_right, true_and, false_and, or_left, or_right, or_elim}
use Rattle.bits.proofs.Below.{all_elim}
use Rattle.bits.proofs.Word.{has_pack, has_with, with_lt, none_in, same_members}
use Rattle.bits.proofs.Membership.{not_empty, each_intro, each_elim, each_cong, subset_intro, subset_elim, subset_pack}
use Rattle.bits.proofs.Walk.{lowest_lt, lowest_in}
use Rattle.closure.proofs.Fixed.{Fixed, step, fixed_own_clear, fixed_reached, fixed_reaches, fixed_one_way, reached_fixed}
use Rattle.table.specs.State.{State}
use Rattle.table.specs.Authority.{senior, permission, idle, user, covers, authorised, may_activate, effective}
use Rattle.table.specs.Seniority.{links, Linked}
use Rattle.table.specs.Separation.{separated}
use Rattle.table.specs.Masks.{MasksTrue}
use Rattle.table.specs.Sound.{sound, Ruled}
use Rattle.table.proofs.Seniority.{link_at, linked_junior, linked_reflexive, linked_transitive}
use Rattle.table.proofs.State.{covers_intro, covers_elim, may_activate_idle, may_activate_busy}
use Rattle.table.proofs.Separation.{separated_elim}
use Rattle.table.proofs.Masks.{mask_has}
use Rattle.table.proofs.Keeps.{no_roles_none_effective}
use Rattle.table.proofs.Sound.{sound_intro}
use Rattle.sound.specs.Answers.{held_within}
use Rattle.sound.specs.Tests.{role_fits, grant_fits, roles_fit, session_fits}

-- the words of a state that a table shows are words
pub record Words (S : State) : Type 0 where
  pub granted_word : (x o : ℕ) → S.granted x o < 2 ^ 64
  pub active_word : (s : ℕ) → S.active s < 2 ^ 64
  pub holds_word : (s x : ℕ) → S.holds s x < 2 ^ 64

-- ---- the roles of a session, as the code goes about them

module _ (S : State) (s : ℕ) where
  pub roles_past : 64 < S.owner s → false ≡ roles_fit S s
  unfolding roles_fit
  roles_past h = sym (false_and _ (lt-leb (S.owner s) 64 h))

  pub roles_idle : S.owner s ≡ 0 → S.active s < 2 ^ 64 → eqb (S.active s) 0 ≡ roles_fit S s
  unfolding roles_fit
  roles_idle e h =
      same_truth
      (λ z. and_intro (le-leb (S.owner s) 64 (omega arith))
      (each_intro (S.active s) _ (λ r l m. absurd (not_empty (S.active s) r m (eqb-true (S.active s) 0 z)))))
      (λ z. eq-eqb (S.active s) 0 (none_in (S.active s) h (λ r l. is_false (λ m.
      clash (each_elim (S.active s) _ (and_right _ _ z) r l m) (may_activate_idle S s r (eq-eqb (S.owner s) 0 e))))))

  pub roles_busy : S.owner s ≤ 64 → (S.owner s ≡ 0 → ⊥) → subset (S.active s) (pack 64 (authorised S (user S s))) ≡ roles_fit S s
  unfolding roles_fit
  roles_busy h n =
      subset_pack (S.active s) (authorised S (user S s))
      ∙ each_cong (S.active s) (λ r l. sym (may_activate_busy S s r (ne_eqb (S.owner s) 0 n)))
      ∙ sym (true_and _ (le-leb (S.owner s) 64 h))

-- ---- the juniors of a role, as the code works them out

-- what is r or below a direct junior of r
covered_is : (S : State) (r p : ℕ) → r < 64 → p < 64 → has (pack 64 (covers S (S.direct r)) with r) p ≡ step (links S.direct) S.juniors r p
unfolding covers
covered_is S r p hr hp =
    has_with _ r p hp
    ∙ ap (λ (b : Bool). eqb p r or b) (has_pack _ 64 p hp ∙ ap (λ (w : ℕ). some w (λ q. senior S q p)) (sym (link_at S.direct r hr)))

-- ---- a sound state passes each item

module _ (S : State) (f : Ruled S) where
  pub sound_role : (r : ℕ) → r < 64 → role_fits S r ≡ true
  unfolding role_fits
  sound_role r h =
      and_intro
      (not_intro (is_false (λ e.
      let k = covers_elim S (S.direct r) r e in
      let m = linked_junior f.is_linked r k.at h k.below k.member in
      clash (ap (has (S.direct r)) (f.is_antisymmetric r k.at h k.below m k.holds) ∙ k.member) (f.is_linked.own_clear r h))))
      (eq-eqb (S.juniors r) _ (same_members (S.juniors r) _ (f.is_linked.is_word r h) (with_lt _ r) (λ p hp.
      reached_fixed (links S.direct) S.juniors
      (λ a b ha hb. (f.is_linked.is_reached a b ha hb).0) (λ a b ha hb. (f.is_linked.is_reached a b ha hb).1) r p h hp
      ∙ sym (covered_is S r p h hp))))

  pub sound_grant : (x o : ℕ) → S.granted x o < 2 ^ 64 → x < 8 → o < 64 → grant_fits S x o ≡ true
  unfolding grant_fits
  sound_grant x o w hx ho =
      by_truth (eqb (S.granted x o) 0) (or_left _)
      (λ e.
      let n = eqb-false (S.granted x o) 0 e in
      or_right _ (f.grants_permitted x o (lowest (S.granted x o)) hx ho (lowest_lt _ w n) (lowest_in _ w n)))

  pub sound_roles : (s : ℕ) → s < 32 → roles_fit S s ≡ true
  unfolding roles_fit
  sound_roles s h =
      and_intro (le-leb (S.owner s) 64 (f.owners_known s h)) (each_intro (S.active s) _ (λ r hr m. f.active_authorised s r h hr m))

  pub sound_held : MasksTrue S → (s x : ℕ) → s < 32 → x < 8 → subset (S.holds s x) (S.masks s x) ≡ true
  sound_held m s x hs hx =
      subset_intro (S.holds s x) (S.masks s x) (λ o ho k.
      ap (λ (v : ℕ). has v o) (m s x hs hx) ∙ mask_has S s x o ho ∙ f.openings_effective s x o hs hx ho k)

-- ---- a state that passes all is sound

module _ (S : State) (w : Words S)
    (by-role : (r : ℕ) → r < 64 → role_fits S r ≡ true)
    (by_grant : (x o : ℕ) → x < 8 → o < 64 → grant_fits S x o ≡ true)
    (by_mask : MasksTrue S)
    (by-session : (s : ℕ) → s < 32 → session_fits S s (S.masks s) ≡ true) where
  by-roles : (s : ℕ) → s < 32 → roles_fit S s ≡ true
  unfolding session_fits
  by-roles s h = and_left _ _ (by-session s h)

  by_holding : (s x : ℕ) → s < 32 → x < 8 → subset (S.holds s x) (S.masks s x) ≡ true
  unfolding session_fits held_within
  by_holding s x hs hx = all_elim _ 8 (and_right (roles_fit S s) _ (by-session s hs)) x hx

  is_fixed : Fixed (links S.direct) S.juniors
  unfolding role_fits
  is_fixed = record {
    word = λ r h. subst (λ (n : ℕ). n < 2 ^ 64) (sym (told r h)) (with_lt _ r);
    fixed = λ r p hr hp. ap (λ (n : ℕ). has n p) (told r hr) ∙ covered_is S r p hr hp;
    no_back = λ r q hr hq m. is_false (λ e.
        clash (covers_intro S (S.direct r) r q hq (sym (ap (λ (w : ℕ). has w q) (link_at S.direct r hr)) ∙ m) e) (not-true _ (and_left _ _ (by-role r hr))));
  }
    where
      told : (r : ℕ) → r < 64 → S.juniors r ≡ pack 64 (covers S (S.direct r)) with r
      told r h = unfold role_fits in eqb-true (S.juniors r) _ (and_right (not (covers S (S.direct r) r)) _ (by-role r h))

  is_linked : Linked S.juniors S.direct
  is_linked = record {
    own_clear = λ r h. sym (ap (λ (w : ℕ). has w r) (link_at S.direct r h)) ∙ fixed_own_clear _ _ is_fixed r h;
    is_word = is_fixed.word;
    is_reached = λ r q hr hq. (fixed_reached _ _ is_fixed r q hr hq, fixed_reaches _ _ is_fixed r q hr hq);
  }

  one_way : (r q : ℕ) → r < 64 → q < 64 → senior S r q ≡ true → senior S q r ≡ true → r ≡ q
  one_way r q hr hq a b =
      fixed_one_way _ _ is_fixed r q hr hq ((is_linked.is_reached r q hr hq).0 a) ((is_linked.is_reached q r hq hr).0 b)

  permits : (x o r : ℕ) → x < 8 → o < 64 → has (S.granted x o) r ≡ true → permission S x o ≡ true
  unfolding grant_fits
  permits x o r hx ho m =
      or_elim (eqb (S.granted x o) 0) _ (by_grant x o hx ho)
      (λ e. absurd (not_empty (S.granted x o) r m (eqb-true (S.granted x o) 0 e))) (λ e. e)

  may_activate_lem : (s r : ℕ) → s < 32 → r < 64 → has (S.active s) r ≡ true → may_activate S s r ≡ true
  unfolding roles_fit
  may_activate_lem s r hs hr m = each_elim (S.active s) _ (and_right _ _ (by-roles s hs)) r hr m

  no_roles : (s : ℕ) → s < 32 → idle S s ≡ true → S.active s ≡ 0
  no_roles s h i =
      none_in (S.active s) (w.active_word s) (λ r hr. is_false (λ m. clash (may_activate_lem s r h hr m) (may_activate_idle S s r i)))

  reach : (s x o : ℕ) → s < 32 → x < 8 → o < 64 → has (S.holds s x) o ≡ true → effective S s x o ≡ true
  reach s x o hs hx ho m =
      sym (ap (λ (v : ℕ). has v o) (by_mask s x hs hx) ∙ mask_has S s x o ho)
      ∙ subset_elim (S.holds s x) (S.masks s x) (by_holding s x hs hx) o ho m

  no_openings : (s x : ℕ) → s < 32 → x < 8 → idle S s ≡ true → S.holds s x ≡ 0
  no_openings s x hs hx i =
      none_in (S.holds s x) (w.holds_word s x) (λ o ho. is_false (λ m.
      no_roles_none_effective S s x o (no_roles s hs i) (reach s x o hs hx ho m)))

  pub items_sound : separated S ≡ true → sound S ≡ true
  unfolding roles_fit
  items_sound d =
      sound_intro S (record {
        is_reflexive = linked_reflexive is_linked;
        is_transitive = linked_transitive is_linked;
        is_antisymmetric = one_way;
        grants_permitted = λ x o r hx ho hr m. permits x o r hx ho m;
        owners_known = λ s h. leb-true (S.owner s) 64 (and_left _ _ (by-roles s h));
        idle_no_roles = no_roles;
        idle_no_openings = no_openings;
        active_authorised = may_activate_lem;
        openings_effective = reach;
        is_linked = is_linked;
        is_separated = separated_elim S d;
      }) by_mask
