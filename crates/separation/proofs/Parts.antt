-- After one change of a separated state only some of its sets are to be asked again. Assumes nothing.
use Prim.Native.Nat.{ℕ, ◌+◌, ◌*◌, ◌-◌, ◌≤◌, ◌<◌}
use mathlib.Core.Path.{◌≡◌, sym, ap, subst, ◌∙◌}
use mathlib.Core.Bool.{Bool, true}
use native.Mathlib.Nat.{zero-add}
use native.Mathlib.Omega.{arith}
use lib.Dec.{ltb}
use borrow.Author.Tests.{eqb-true, ltb-true, ltb-false}
use Rattle.bits.specs.Words.{has}
use Rattle.bits.proofs.Truth.{by_truth, same_truth, and_right, and_true, if_true, if_false}
use Rattle.bits.proofs.Below.{all_intro, all_elim}
use Rattle.table.specs.State.{State}
use Rattle.table.specs.Authority.{covers, authorised}
use Rattle.table.specs.Changes.{set_seniority, with_assigned, with_active, with_set}
use Rattle.table.specs.Separation.{mask, bound, static_holds, dynamic_holds, static_sets_hold, sets_empty, separated, Fewer, GoodPair, Separated}
use Rattle.table.proofs.Agree.{upd_same}
use Rattle.table.proofs.Separation.{no_roles_fewer, fewer_elim, fewer_intro, separated_elim, separated_intro, separated_parts}
use Rattle.table.proofs.Keeps.{set_mask, set_bound, active_separated, assigned_separated, set_separated}
use Rattle.separation.specs.Answers.{sets_fit, pair_holds}

module _ (S : State) (f : Separated S) where
  -- another seniority: only static sets can break
  pub seniority_fits : (j d : ℕ → ℕ) → let S' = set_seniority S j d in separated S' ≡ static_sets_hold S'
  seniority_fits j d =
      separated_parts _ ∙ and_true (static_sets_hold (set_seniority S j d)) (and_right (static_sets_hold S) _ (sym (separated_parts S) ∙ separated_intro S f))

  -- roles become active in a session: they must fit the dynamic sets
  pub active_fits : (s w : ℕ) → s < 32 → separated (with_active S s w) ≡ sets_fit S 16 (has w)
  active_fits s w hs =
      same_truth
      (λ e. all_intro _ 16 (λ n h. fewer_intro _ _ (has w)
      (subst (λ (v : ℕ). Fewer (mask S (16 + n)) (bound S (16 + n)) (has v)) (upd_same S.active s w) ((separated_elim _ e).dynamic_holds n s h hs))))
      (λ e. separated_intro _ (active_separated S f s w (λ n h. fewer_elim _ _ (has w) (all_elim _ 16 e n h))))

  -- roles are assigned to a user: they and their juniors must fit the static sets
  pub assigned_fits : (u w : ℕ) → u < 64 → separated (with_assigned S u w) ≡ sets_fit S 0 (covers S w)
  unfolding covers authorised
  assigned_fits u w hu =
      same_truth
      (λ e. all_intro _ 16 (λ n h. fewer_intro _ _ (covers S w) (rw (zero-add n)
      (subst (λ (v : ℕ). Fewer (mask S n) (bound S n) (covers S v)) (upd_same S.assigned u w) ((separated_elim _ e).static_holds n u h hu)))))
      (λ e. separated_intro _ (assigned_separated S f u w (λ n h. rw (zero-add n) at (fewer_elim (mask S (0 + n)) (bound S (0 + n)) (covers S w) (all_elim _ 16 e n h)))))

  pair_was : (n m b : ℕ) (P : ℕ → ℕ → Type 0) → P (mask (with_set S n m b) n) (bound (with_set S n m b) n) → P m b
  pair_was n m b P p = subst (P m) (set_bound S n m b) (subst (λ (c : ℕ). P c (bound (with_set S n m b) n)) (set_mask S n m b) p)

  -- a good pair replaces pair n: it must hold
  static_fits : (n m b : ℕ) → n < 16 → GoodPair m b → separated (with_set S n m b) ≡ static_holds S m b
  unfolding covers authorised
  static_fits n m b h g =
      same_truth
      (λ e. all_intro _ 64 (λ u hu. fewer_intro m b _
      (pair_was n m b (λ c d. Fewer c d (authorised S u)) ((separated_elim _ e).static_holds n u h hu))))
      (λ e. separated_intro _ (set_separated S f n m b g (λ u l hu. fewer_elim m b _ (all_elim _ 64 e u hu)) (λ s l hs. absurd (omega arith))))

  dynamic_fits : (n m b : ℕ) → n < 16 → GoodPair m b → separated (with_set S (16 + n) m b) ≡ dynamic_holds S m b
  dynamic_fits n m b h g =
      same_truth
      (λ e. all_intro _ 32 (λ s hs. fewer_intro m b _
      (pair_was (16 + n) m b (λ c d. Fewer c d (has (S.active s))) ((separated_elim _ e).dynamic_holds n s h hs))))
      (λ e. separated_intro _ (set_separated S f (16 + n) m b g (λ u l hu. absurd (omega arith)) (λ s l hs. fewer_elim m b _ (all_elim _ 32 e s hs))))

  pub pair_fits_lem : (n m b : ℕ) → n < 32 → GoodPair m b → separated (with_set S n m b) ≡ pair_holds S n m b
  unfolding pair_holds
  pair_fits_lem n m b h g =
      by_truth (ltb n 16)
      (λ l. static_fits n m b (ltb-true n 16 l) g ∙ sym (if_true _ _ l))
      (λ l.
      let k = ltb-false n 16 l in
      let e : n ≡ 16 + (n - 16) = omega arith in
      ap (λ (i : ℕ). separated (with_set S i m b)) e ∙ dynamic_fits (n - 16) m b (omega arith) g ∙ sym (if_false _ _ l))

-- where no set is in use any roles fit
pub empty_fits : (S : State) (first : ℕ) (f : ℕ → Bool) → first ≤ 16 → sets_empty S ≡ true → sets_fit S first f ≡ true
empty_fits S first f h e = all_intro _ 16 (λ n l. no_roles_fewer _ _ f (eqb-true _ 0 (all_elim _ 64 e (2 * (first + n)) (omega arith))))
