-- After one change of a sound state only a part of soundness is to be tested again. Assumes nothing.
use Prim.Native.Nat.{ℕ, suc, ◌<◌}
use mathlib.Core.Path.{◌≡◌, refl, sym, ap, ◌∙◌}
use mathlib.Core.Bool.{Bool, true, false, not}
use lib.Dec.{leb}
use borrow.Author.Tests.{eq-eqb, eqb-true, le-leb}
use Rattle.bits.specs.Words.{◌and◌, ◌or◌, upd, has, ◌with◌}
use Rattle.bits.specs.Sets.{each, ◌without◌}
use Rattle.bits.proofs.Truth.{by_truth, same_truth, and_intro, and_left, and_right, or_left, false_or, implies_intro, implies_elim}
use Rattle.bits.proofs.Below.{all_intro, all_elim}
use Rattle.bits.proofs.Word.{without_old, without_none, without_same}
use Rattle.bits.proofs.Membership.{each_intro, each_elim}
use Rattle.table.specs.State.{State}
use Rattle.table.specs.Authority.{senior, may_activate}
use Rattle.table.specs.Changes.{with_assigned, with_granted, with_active, with_direct}
use Rattle.table.specs.Seniority.{Linked}
use Rattle.table.specs.Separation.{Separated}
use Rattle.table.specs.Sound.{ruled, Ruled}
use Rattle.table.proofs.State.{may_activate_user}
use Rattle.table.proofs.Sound.{ruled_intro, ruled_elim}
use Rattle.table.proofs.Agree.{upd_same, grid_same}
use Rattle.table.proofs.Seniority.{link_more, link_own_clear, link_one_way, unlink_less, unlink_own_clear}
use Rattle.table.proofs.Separation.{separated_less}
use Rattle.table.proofs.Keeps.{active_less, assigned_less, active_keeps, assigned_keeps, granted_keeps, direct_keeps, authorised_more, may_activate_more, effective_more}
use Rattle.sound.specs.Answers.{openings_fit, sessions_fit, pair_fits, sessions_hold}

-- what is asked only where something was there to be taken away, and holds where there was not
asked : (there : Bool) {b c : Bool} → b ≡ c → (there ≡ false → c ≡ true) → b ≡ not there or c
asked there {b} {c} e f =
    e ∙ by_truth there (λ k. sym (false_or _ (ap not k))) (λ k. f k ∙ sym (or_left _ (ap not k)))

module _ (S : State) (f : Ruled S) where
  dropped : (s r : ℕ) → s < 32 → let S' = with_active S s (S.active s without r) in ruled S' ≡ openings_fit S' s
  unfolding openings_fit
  dropped s r hs =
      same_truth
      (λ e. all_intro _ 8 (λ x hx. each_intro _ _ (λ o ho m. (ruled_elim S' e).openings_effective s x o hs hx ho m)))
      (λ e. ruled_intro S' (active_keeps S f s (S.active s without r)
      (λ q hq m. f.active_authorised s q hs hq (without_old (S.active s) r q hq m))
      (λ i. ap (λ (w : ℕ). w without r) (f.idle_no_roles s hs i) ∙ without_none r)
      (λ x o hx ho m. each_elim _ _ (all_elim _ 8 e x hx) o ho m)
      (active_less S f.is_separated s (S.active s without r) (λ q hq m. without_old (S.active s) r q hq m))))
    where
      S' : State
      S' = with_active S s (S.active s without r)

  -- a role is dropped: where it was active, what the session holds must stay effective
  pub drop_ruled : (s r : ℕ) → s < 32 → let S' = with_active S s (S.active s without r) in ruled S' ≡ not (has (S.active s) r) or openings_fit S' s
  drop_ruled s r hs =
      asked (has (S.active s) r) (dropped s r hs) (λ n. unfold openings_fit in
      all_intro _ 8 (λ x hx. each_intro _ _ (λ o ho m.
      effective_more S (with_active S s (S.active s without r)) (λ a b ha hb k. k) s x o refl (λ q hq k. k)
      (λ q hq k. ap (λ (w : ℕ). has w q) (upd_same S.active s _) ∙ without_same (S.active s) r n q hq ∙ k)
      (f.openings_effective s x o hs hx ho m))))

  pub deassigned : (u r : ℕ) → u < 64 → let S' = with_assigned S u (S.assigned u without r) in ruled S' ≡ sessions_fit S' u
  unfolding sessions_fit
  deassigned u r hu =
      same_truth
      (λ e. all_intro _ 32 (λ s hs. implies_intro _ _ (λ o. each_intro _ _ (λ q hq m.
      sym (may_activate_user S' s u q (eqb-true (S.owner s) (suc u) o))
      ∙ (ruled_elim S' e).active_authorised s q hs hq m))))
      (λ e. ruled_intro S' (assigned_keeps S f u (S.assigned u without r)
      (λ s q hs hq o m. each_elim _ _ (implies_elim _ _ (all_elim _ 32 e s hs) (eq-eqb (S.owner s) (suc u) o)) q hq m)
      (assigned_less S f.is_separated u (S.assigned u without r) (λ q hq m. without_old (S.assigned u) r q hq m))))
    where
      S' : State
      S' = with_assigned S u (S.assigned u without r)

  -- a role is deassigned: where it was assigned, what is active in the user's sessions must stay authorised
  pub deassign_ruled : (u r : ℕ) → u < 64 → let S' = with_assigned S u (S.assigned u without r) in ruled S' ≡ not (has (S.assigned u) r) or sessions_fit S' u
  deassign_ruled u r hu =
      asked (has (S.assigned u) r) (deassigned u r hu) (λ n. unfold sessions_fit in
      all_intro _ 32 (λ s hs. implies_intro _ _ (λ o. each_intro _ _ (λ q hq m.
      authorised_more S (with_assigned S u (S.assigned u without r)) (λ a b ha hb k. k) u q hq
      (λ p hp k. ap (λ (w : ℕ). has w p) (upd_same S.assigned u _) ∙ without_same (S.assigned u) r n p hp ∙ k)
      (sym (may_activate_user S s u q (eqb-true (S.owner s) (suc u) o)) ∙ f.active_authorised s q hs hq m)))))

  revoked : (r x o : ℕ) → x < 8 → o < 64 → let S' = with_granted S x o (S.granted x o without r) in ruled S' ≡ pair_fits S' x o
  unfolding pair_fits
  revoked r x o hx ho =
      same_truth
      (λ e. all_intro _ 32 (λ s hs. implies_intro _ _ (λ m. (ruled_elim S' e).openings_effective s x o hs hx ho m)))
      (λ e. ruled_intro S' (granted_keeps S f x o (S.granted x o without r)
      (λ q hq m. f.grants_permitted x o q hx ho hq (without_old (S.granted x o) r q hq m))
      (λ s hs m. implies_elim _ _ (all_elim _ 32 e s hs) m)))
    where
      S' : State
      S' = with_granted S x o (S.granted x o without r)

  -- a grant is revoked: where it was there, it must stay effective for those who hold it
  pub revoke_ruled : (r x o : ℕ) → x < 8 → o < 64 → let S' = with_granted S x o (S.granted x o without r) in ruled S' ≡ not (has (S.granted x o) r) or pair_fits S' x o
  revoke_ruled r x o hx ho =
      asked (has (S.granted x o) r) (revoked r x o hx ho) (λ n. unfold pair_fits in
      all_intro _ 32 (λ s hs. implies_intro _ _ (λ m.
      effective_more S (with_granted S x o (S.granted x o without r)) (λ a b ha hb k. k) s x o refl
      (λ q hq k. ap (λ (w : ℕ). has w q) (grid_same S.granted x o _) ∙ without_same (S.granted x o) r n q hq ∙ k) (λ q hq k. k)
      (f.openings_effective s x o hs hx ho m))))

  -- a link is made, from a role to another that is not above it: the sets must hold
  pub link_keeps : (r q : ℕ) → r < 64 → q < 64 → (r ≡ q → ⊥) → senior S q r ≡ false
      → let S' = with_direct S r (S.direct r with q) in Separated S' → Ruled S'
  link_keeps r q hr hq n b =
      direct_keeps S f (upd S.direct r (S.direct r with q)) (link_own_clear l r q hr hq n) (link_one_way l r q hr hq b f.is_antisymmetric)
      (λ s p hs hp m. may_activate_more S _ grow s p hp refl (λ u a ha k. k) (f.active_authorised s p hs hp m))
      (λ s x o hs hx ho m. effective_more S _ grow s x o refl (λ a ha k. k) (λ a ha k. k) (f.openings_effective s x o hs hx ho m))
    where
      l : Linked S.juniors S.direct
      l = f.is_linked

      grow : (a p : ℕ) → a < 64 → p < 64 → senior S a p ≡ true → senior (with_direct S r (S.direct r with q)) a p ≡ true
      grow = link_more l r q hr hq

  -- a link is taken away: active roles must stay authorised, and openings effective
  pub unlink_ruled : (r q : ℕ) → r < 64 → q < 64 → let S' = with_direct S r (S.direct r without q) in ruled S' ≡ sessions_hold S'
  unfolding sessions_hold openings_fit
  unlink_ruled r q hr hq =
      same_truth
      (λ e.
      let g = ruled_elim S' e in
      all_intro _ 32 (λ s hs. and_intro (le-leb (S.owner s) 64 (f.owners_known s hs))
      (and_intro (each_intro _ _ (λ p hp m. g.active_authorised s p hs hp m))
      (all_intro _ 8 (λ x hx. each_intro _ _ (λ o ho m. g.openings_effective s x o hs hx ho m))))))
      (λ e.
      let told : (s : ℕ) → s < 32 → each (S.active s) (may_activate S' s) and openings_fit S' s ≡ true = λ s hs. and_right (leb (S.owner s) 64) _ (all_elim _ 32 e s hs) in
      ruled_intro S' (direct_keeps S f (upd S.direct r (S.direct r without q)) (unlink_own_clear l r q hr hq)
      (λ a b ha hb x y. f.is_antisymmetric a b ha hb (less a b ha hb x) (less b a hb ha y))
      (λ s p hs hp m. each_elim _ _ (and_left _ _ (told s hs)) p hp m)
      (λ s x o hs hx ho m. each_elim _ _ (all_elim _ 8 (and_right (each (S.active s) (may_activate S' s)) _ (told s hs)) x hx) o ho m)
      (separated_less S S' f.is_separated (λ i h. refl) (λ u p hu hp k. authorised_more S' S less u p hp (λ a ha m. m) k) (λ s p hs hp m. m))))
    where
      l : Linked S.juniors S.direct
      l = f.is_linked

      S' : State
      S' = with_direct S r (S.direct r without q)

      less : (a p : ℕ) → a < 64 → p < 64 → senior S' a p ≡ true → senior S a p ≡ true
      less = unlink_less l r q hr hq
