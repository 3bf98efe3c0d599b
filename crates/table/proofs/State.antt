-- Laws of authorised roles and effective permissions: their plain readings, and the forms in which the code finds them. Assumes nothing.
use Prim.Native.Nat.{ℕ, suc, ◌<◌}
use mathlib.Core.Path.{◌≡◌, sym, ap, ◌∙◌}
use mathlib.Core.Bool.{true, false, not}
use native.Mathlib.Omega.{arith}
use borrow.Author.Tests.{ne_eqb}
use Rattle.bits.specs.Words.{◌and◌, has, pack}
use Rattle.bits.specs.Sets.{overlap}
use Rattle.bits.proofs.Truth.{same_truth, and_intro, and_left, and_right, true_and, false_and}
use Rattle.bits.proofs.Word.{has_pack}
use Rattle.bits.proofs.Membership.{Some, some_intro, some_elim, overlap_intro, overlap_elim}
use Rattle.table.specs.State.{State}
use Rattle.table.specs.Authority.{senior, permission, idle, user, covers, authorised, may_activate, effective, Authorised, Effective}

module _ (S : State) where
  -- ---- authorised roles

  pub covers_intro : (roles q r : ℕ) → r < 64 → has roles r ≡ true → senior S r q ≡ true → covers S roles q ≡ true
  unfolding covers
  covers_intro roles q r h m e = some_intro roles (λ r. senior S r q) r h m e

  pub covers_elim : (roles q : ℕ) → covers S roles q ≡ true → Some roles (λ r. senior S r q)
  unfolding covers
  covers_elim roles q e = some_elim roles (λ r. senior S r q) e

  pub authorised_intro : (u q : ℕ) → Authorised S u q → authorised S u q ≡ true
  unfolding authorised
  authorised_intro u q a = covers_intro (S.assigned u) q a.role a.below a.assigned_to a.senior_to

  pub authorised_elim : (u q : ℕ) → authorised S u q ≡ true → Authorised S u q
  unfolding authorised
  authorised_elim u q e =
      let s = covers_elim (S.assigned u) q e in
      record { role = s.at; below = s.below; assigned_to = s.member; senior_to = s.holds }

  -- ---- effective permissions

  pub effective_intro : (s x o : ℕ) → Effective S s x o → effective S s x o ≡ true
  unfolding effective
  effective_intro s x o e =
      and_intro e.permitted_pair
      (some_intro (S.active s) _ e.role e.below e.active_in
      (some_intro (S.granted x o) _ e.junior e.junior_below e.granted_to e.senior_to))

  pub effective_elim : (s x o : ℕ) → effective S s x o ≡ true → Effective S s x o
  unfolding effective
  effective_elim s x o e =
      let r = some_elim (S.active s) _ (and_right (permission S x o) _ e) in
      let q = some_elim (S.granted x o) _ r.holds in
      record {
        permitted_pair = and_left (permission S x o) _ e;
        role = r.at;
        below = r.below;
        active_in = r.member;
        junior = q.at;
        junior_below = q.below;
        senior_to = q.holds;
        granted_to = q.member;
      }

  -- a permission that is granted to one of the active roles and their juniors
  pub effective_is : (s x o : ℕ) → effective S s x o ≡ permission S x o and overlap (S.granted x o) (pack 64 (covers S (S.active s)))
  effective_is s x o =
      same_truth
      (λ e.
      let f = effective_elim s x o e in
      and_intro f.permitted_pair
      (overlap_intro (S.granted x o) _ f.junior f.junior_below f.granted_to
      (has_pack _ 64 f.junior f.junior_below ∙ covers_intro (S.active s) f.junior f.role f.below f.active_in f.senior_to)))
      (λ e.
      let q = overlap_elim (S.granted x o) _ (and_right (permission S x o) _ e) in
      let r = covers_elim (S.active s) q.at (sym (has_pack _ 64 q.at q.below) ∙ q.holds) in
      effective_intro s x o (record {
        permitted_pair = and_left (permission S x o) _ e;
        role = r.at;
        below = r.below;
        active_in = r.member;
        junior = q.at;
        junior_below = q.below;
        senior_to = r.holds;
        granted_to = q.member;
      }))

  -- ---- the roles that a session may activate

  pub may_activate_idle : (s q : ℕ) → idle S s ≡ true → may_activate S s q ≡ false
  unfolding may_activate
  may_activate_idle s q e = false_and _ (ap not e)

  pub may_activate_busy : (s q : ℕ) → idle S s ≡ false → may_activate S s q ≡ authorised S (user S s) q
  unfolding may_activate
  may_activate_busy s q e = true_and _ (ap not e)

  pub may_activate_user : (s u q : ℕ) → S.owner s ≡ suc u → may_activate S s q ≡ authorised S u q
  may_activate_user s u q e =
      may_activate_busy s q (ne_eqb (S.owner s) 0 (λ z. omega arith)) ∙ ap (λ (v : ℕ). authorised S v q) (omega arith)
