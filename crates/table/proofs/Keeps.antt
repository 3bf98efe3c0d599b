-- What keeps a state sound: for each word that a request replaces, what the new word must meet. Assumes nothing.
use Prim.Native.Nat.{ℕ, suc, ◌+◌, ◌*◌, ◌-◌, ◌≤◌, ◌<◌}
use mathlib.Core.Path.{◌≡◌, refl, sym, ap, ap₂, subst, ◌∙◌}
use mathlib.Core.Bool.{true, false, not}
use native.Mathlib.Omega.{arith}
use lib.Dec.{eqb}
use borrow.Author.Tests.{eqb-true, eqb-false}
use Rattle.bits.specs.Words.{◌and◌, upd, has}
use Rattle.bits.specs.Sets.{some}
use Rattle.bits.proofs.Truth.{clash, by_truth, is_false, same_truth, and_intro, and_left, and_right}
use Rattle.bits.proofs.Word.{has_zero, pack_cong, pack_none}
use Rattle.bits.proofs.Membership.{not_empty}
use Rattle.table.specs.State.{State}
use Rattle.table.specs.Authority.{senior, permission, idle, user, covers, authorised, may_activate, effective}
use Rattle.table.specs.Changes.{set_direct, with_assigned, with_granted, with_owner, with_active, with_holds, with_set}
use Rattle.table.specs.Seniority.{Linked}
use Rattle.table.specs.Separation.{mask, bound, Fewer, GoodPair, Separated}
use Rattle.table.specs.Masks.{mask_of}
use Rattle.table.specs.Sound.{Ruled}
use Rattle.table.proofs.State.{authorised_intro, authorised_elim, effective_intro, effective_elim, may_activate_busy}
use Rattle.table.proofs.Agree.{upd_same, upd_other, by_upd, grid_same, by_grid}
use Rattle.table.proofs.Seniority.{closed_row, closure_linked, linked_reflexive, linked_transitive}
use Rattle.table.proofs.Separation.{separated_less}

-- ---- what authorised roles and effective permissions hang on

module _ (S S' : State) (j : S.juniors ≡ S'.juniors) where
  pub authorised_same : (u q : ℕ) → S.assigned u ≡ S'.assigned u → authorised S u q ≡ authorised S' u q
  unfolding authorised covers
  authorised_same u q a = λ i. some (a i) (λ r. has (j i r) q)

  pub may_activate_same : (s q : ℕ) → S.assigned ≡ S'.assigned → S.owner s ≡ S'.owner s → may_activate S s q ≡ may_activate S' s q
  unfolding may_activate authorised covers
  may_activate_same s q a o = λ i. not (eqb (o i) 0) and some (a i (o i - 1)) (λ r. has (j i r) q)

  pub effective_same : (s x o : ℕ) → S.permitted ≡ S'.permitted → S.granted x o ≡ S'.granted x o → S.active s ≡ S'.active s
      → effective S s x o ≡ effective S' s x o
  unfolding effective
  effective_same s x o p g a = λ i. has (p i x) o and some (a i) (λ r. some (g i) (λ q. has (j i r) q))

-- a role senior to no fewer, more roles assigned, more roles active, more roles granted
module _ (S S' : State) (j : (r q : ℕ) → r < 64 → q < 64 → senior S r q ≡ true → senior S' r q ≡ true) where
  pub authorised_more : (u q : ℕ) → q < 64 → ((r : ℕ) → r < 64 → has (S.assigned u) r ≡ true → has (S'.assigned u) r ≡ true)
      → authorised S u q ≡ true → authorised S' u q ≡ true
  authorised_more u q h k e =
      let a = authorised_elim S u q e in
      authorised_intro S' u q (record {
        role = a.role;
        below = a.below;
        assigned_to = k a.role a.below a.assigned_to;
        senior_to = j a.role q a.below h a.senior_to;
      })

  pub may_activate_more : (s q : ℕ) → q < 64 → S.owner s ≡ S'.owner s
      → ((u r : ℕ) → r < 64 → has (S.assigned u) r ≡ true → has (S'.assigned u) r ≡ true)
      → may_activate S s q ≡ true → may_activate S' s q ≡ true
  unfolding may_activate
  may_activate_more s q h o k e =
      and_intro (sym (ap (λ (w : ℕ). not (eqb w 0)) o) ∙ and_left _ _ e)
      (ap (λ (w : ℕ). authorised S' (w - 1) q) (sym o) ∙ authorised_more (user S s) q h (k (user S s)) (and_right (not (idle S s)) _ e))

  pub effective_more : (s x o : ℕ) → S.permitted ≡ S'.permitted
      → ((r : ℕ) → r < 64 → has (S.granted x o) r ≡ true → has (S'.granted x o) r ≡ true)
      → ((r : ℕ) → r < 64 → has (S.active s) r ≡ true → has (S'.active s) r ≡ true)
      → effective S s x o ≡ true → effective S' s x o ≡ true
  effective_more s x o p g k e =
      let f = effective_elim S s x o e in
      effective_intro S' s x o (record {
        permitted_pair = sym (ap (λ (w : ℕ → ℕ). has (w x) o) p) ∙ f.permitted_pair;
        role = f.role;
        below = f.below;
        active_in = k f.role f.below f.active_in;
        junior = f.junior;
        junior_below = f.junior_below;
        senior_to = j f.role f.junior f.below f.junior_below f.senior_to;
        granted_to = g f.junior f.junior_below f.granted_to;
      })

-- nothing is effective for a session without active roles
pub no_roles_none_effective : (S : State) (s x o : ℕ) → S.active s ≡ 0 → effective S s x o ≡ true → ⊥
no_roles_none_effective S s x o z e = let f = effective_elim S s x o e in not_empty (S.active s) f.role f.active_in z

pub no_roles_mask : (S : State) (s x : ℕ) → S.active s ≡ 0 → mask_of S s x ≡ 0
unfolding mask_of
no_roles_mask S s x z = pack_none 64 (λ o h. is_false (no_roles_none_effective S s x o z))

-- permissions and grants of a session that hang on the same members
module _ (S S' : State) (j : S.juniors ≡ S'.juniors) (p : S.permitted ≡ S'.permitted) where
  pub mask_same : (s x : ℕ) → ((o r : ℕ) → o < 64 → r < 64 → has (S.granted x o) r ≡ has (S'.granted x o) r)
      → ((r : ℕ) → r < 64 → has (S.active s) r ≡ has (S'.active s) r) → mask_of S s x ≡ mask_of S' s x
  unfolding mask_of
  mask_same s x g a =
      pack_cong 64 (λ o ho. same_truth
      (effective_more S S' (λ r q hr hq e. sym (ap (λ (f : ℕ → ℕ). has (f r) q) j) ∙ e) s x o p
      (λ r hr e. sym (g o r ho hr) ∙ e) (λ r hr e. sym (a r hr) ∙ e))
      (effective_more S' S (λ r q hr hq e. ap (λ (f : ℕ → ℕ). has (f r) q) j ∙ e) s x o (sym p)
      (λ r hr e. g o r ho hr ∙ e) (λ r hr e. a r hr ∙ e)))

-- ---- what keeps the sets

-- the pairs of a state with pair n replaced
module _ (S : State) (n m b : ℕ) where
  abbrev S' : State
  S' = with_set S n m b

  pub set_mask : mask S' n ≡ m
  set_mask = upd_other (upd S.sets (2 * n) m) (2 * n + 1) b (2 * n) (λ z. omega arith) ∙ upd_same S.sets (2 * n) m

  pub set_bound : bound S' n ≡ b
  set_bound = upd_same (upd S.sets (2 * n) m) (2 * n + 1) b

  by_pair : (i : ℕ) (P : ℕ → ℕ → Type 0) → (i ≡ n → P m b) → ((i ≡ n → ⊥) → P (mask S i) (bound S i)) → P (mask S' i) (bound S' i)
  by_pair i P p q =
      by_truth (eqb i n)
      (λ e. let d = eqb-true i n e in to (ap (mask S') d ∙ set_mask) (ap (bound S') d ∙ set_bound) (p d))
      (λ e.
      let d = eqb-false i n e in
      to (other (2 * i) (λ z. omega arith) (λ z. d (omega arith))) (other (2 * i + 1) (λ z. d (omega arith)) (λ z. omega arith)) (q d))
    where
      other : (k : ℕ) → (k ≡ 2 * n + 1 → ⊥) → (k ≡ 2 * n → ⊥) → S'.sets k ≡ S.sets k
      other k y z = upd_other (upd S.sets (2 * n) m) (2 * n + 1) b k y ∙ upd_other S.sets (2 * n) m k z

      to : {c d : ℕ} → mask S' i ≡ c → bound S' i ≡ d → P c d → P (mask S' i) (bound S' i)
      to {c} {d} e g k = subst (P (mask S' i)) (sym g) (subst (λ (v : ℕ). P v d) (sym e) k)

-- a state with the same sets, assigned and active roles
pub same_separated : (S S' : State) → Separated S → S'.sets ≡ S.sets → S'.juniors ≡ S.juniors → S'.assigned ≡ S.assigned
    → S'.active ≡ S.active → Separated S'
same_separated S S' f e j a c =
    separated_less S S' f (λ i h. sym (ap (λ (w : ℕ → ℕ). w i) e))
    (λ u q h l k. sym (authorised_same S' S j u q (ap (λ (w : ℕ → ℕ). w u) a)) ∙ k)
    (λ s r hs hr m. sym (ap (λ (w : ℕ → ℕ). has (w s) r) c) ∙ m)

module _ (S : State) (f : Separated S) where
  -- the active roles of session s include fewer of each dynamic set than its bound
  pub active_separated : (s w : ℕ) → ((n : ℕ) → n < 16 → Fewer (mask S (16 + n)) (bound S (16 + n)) (has w)) → Separated (with_active S s w)
  unfolding covers authorised
  active_separated s w k = record {
    static_holds = f.static_holds;
    dynamic_holds = λ n p hn hp. by_upd S.active s w (λ (v : ℕ). Fewer (mask S (16 + n)) (bound S (16 + n)) (has v)) p (λ e. k n hn) (λ d. f.dynamic_holds n p hn hp);
    pairs_good = f.pairs_good;
  }

  -- fewer active roles, and fewer assigned ones
  pub active_less : (s w : ℕ) → ((r : ℕ) → r < 64 → has w r ≡ true → has (S.active s) r ≡ true) → Separated (with_active S s w)
  unfolding covers authorised
  active_less s w k =
      separated_less S (with_active S s w) f (λ i h. refl) (λ u q h l e. e) (λ p r hp hr m.
      by_upd S.active s w (λ (v : ℕ). has v r ≡ true → has (S.active p) r ≡ true) p
      (λ e q. ap (λ (n : ℕ). has (S.active n) r) e ∙ k r hr q) (λ n q. q) m)

  pub assigned_less : (u w : ℕ) → ((r : ℕ) → r < 64 → has w r ≡ true → has (S.assigned u) r ≡ true) → Separated (with_assigned S u w)
  assigned_less u w k =
      separated_less S (with_assigned S u w) f (λ i h. refl)
      (λ v q h l e. authorised_more (with_assigned S u w) S (λ a b ha hb k. k) v q l (λ r hr m.
      by_upd S.assigned u w (λ (a : ℕ). has a r ≡ true → has (S.assigned v) r ≡ true) v
      (λ d l. ap (λ (n : ℕ). has (S.assigned n) r) d ∙ k r hr l) (λ n l. l) m) e)
      (λ p r hp hr m. m)

  pub ended_separated : (s : ℕ) → Separated (with_holds (with_active (with_owner S s 0) s 0) s (λ x. 0))
  ended_separated s = same_separated (with_active S s 0) _ (active_less s 0 (λ r h m. clash m (has_zero r))) refl refl refl refl

  -- the authorised roles of user u include fewer of each static set than its bound
  pub assigned_separated : (u w : ℕ) → ((n : ℕ) → n < 16 → Fewer (mask S n) (bound S n) (covers S w)) → Separated (with_assigned S u w)
  unfolding covers authorised
  assigned_separated u w k = record {
    static_holds = λ n v hn hv. by_upd S.assigned u w (λ (a : ℕ). Fewer (mask S n) (bound S n) (covers S a)) v (λ e. k n hn) (λ d. f.static_holds n v hn hv);
    dynamic_holds = f.dynamic_holds;
    pairs_good = f.pairs_good;
  }

  -- pair n is good and holds
  pub set_separated : (n m b : ℕ) → GoodPair m b → ((u : ℕ) → n < 16 → u < 64 → Fewer m b (authorised S u))
      → ((s : ℕ) → 16 ≤ n → s < 32 → Fewer m b (has (S.active s))) → Separated (with_set S n m b)
  unfolding covers authorised
  set_separated n m b g k l = record {
    static_holds = λ i u hi hu. by_pair S n m b i (λ c d. Fewer c d (authorised S u)) (λ e. k u (omega arith) hu) (λ e. f.static_holds i u hi hu);
    dynamic_holds = λ i s hi hs. by_pair S n m b (16 + i) (λ c d. Fewer c d (has (S.active s))) (λ e. l s (omega arith) hs) (λ e. f.dynamic_holds i s hi hs);
    pairs_good = λ i h. by_pair S n m b i GoodPair (λ e. g) (λ e. f.pairs_good i h);
  }

-- ---- what keeps a state sound

module _ (S : State) (f : Ruled S) where
  -- the openings of session s: each is effective
  pub holds_keeps : (s : ℕ) (w : ℕ → ℕ)
      → ((x o : ℕ) → x < 8 → o < 64 → has (w x) o ≡ true → effective S s x o ≡ true)
      → ((x : ℕ) → x < 8 → idle S s ≡ true → w x ≡ 0)
      → Ruled (with_holds S s w)
  unfolding covers authorised may_activate effective
  holds_keeps s w k z = record {
    is_reflexive = f.is_reflexive;
    is_transitive = f.is_transitive;
    is_antisymmetric = f.is_antisymmetric;
    grants_permitted = f.grants_permitted;
    owners_known = f.owners_known;
    idle_no_roles = f.idle_no_roles;
    idle_no_openings = λ p x hp hx i.
        by_upd S.holds s w (λ (g : ℕ → ℕ). g x ≡ 0) p
        (λ e. z x hx (sym (ap (λ (n : ℕ). idle S n) e) ∙ i)) (λ n. f.idle_no_openings p x hp hx i);
    active_authorised = f.active_authorised;
    openings_effective = λ p x o hp hx ho m.
        by_upd S.holds s w (λ (g : ℕ → ℕ). has (g x) o ≡ true → effective S p x o ≡ true) p
        (λ e q. ap (λ (n : ℕ). effective S n x o) e ∙ k x o hx ho q) (λ n q. f.openings_effective p x o hp hx ho q) m;
    is_linked = f.is_linked;
    is_separated = same_separated S _ f.is_separated refl refl refl refl;
  }

  -- the active roles of session s: each may be activated, what s holds stays effective, and the sets hold
  pub active_keeps : (s w : ℕ)
      → ((r : ℕ) → r < 64 → has w r ≡ true → may_activate S s r ≡ true)
      → (idle S s ≡ true → w ≡ 0)
      → ((x o : ℕ) → x < 8 → o < 64 → has (S.holds s x) o ≡ true → effective (with_active S s w) s x o ≡ true)
      → Separated (with_active S s w)
      → Ruled (with_active S s w)
  unfolding covers authorised may_activate
  active_keeps s w k z l d = record {
    is_reflexive = f.is_reflexive;
    is_transitive = f.is_transitive;
    is_antisymmetric = f.is_antisymmetric;
    grants_permitted = f.grants_permitted;
    owners_known = f.owners_known;
    idle_no_roles = λ p hp i.
        by_upd S.active s w (λ (v : ℕ). v ≡ 0) p (λ e. z (sym (ap (λ (n : ℕ). idle S n) e) ∙ i)) (λ n. f.idle_no_roles p hp i);
    idle_no_openings = f.idle_no_openings;
    active_authorised = λ p r hp hr m.
        by_upd S.active s w (λ (v : ℕ). has v r ≡ true → may_activate S p r ≡ true) p
        (λ e q. ap (λ (n : ℕ). may_activate S n r) e ∙ k r hr q) (λ n q. f.active_authorised p r hp hr q) m;
    openings_effective = λ p x o hp hx ho m.
        by_truth (eqb p s)
        (λ b.
        let e = eqb-true p s b in
        ap (λ (n : ℕ). effective (with_active S s w) n x o) e ∙ l x o hx ho (sym (ap (λ (n : ℕ). has (S.holds n x) o) e) ∙ m))
        (λ b.
        effective_same (with_active S s w) S refl p x o refl refl (upd_other S.active s w p (eqb-false p s b))
        ∙ f.openings_effective p x o hp hx ho m);
    is_linked = f.is_linked;
    is_separated = d;
  }

  -- the roles assigned to user u: the roles active in the sessions of u stay authorised, and the sets hold
  pub assigned_keeps : (u w : ℕ)
      → ((s r : ℕ) → s < 32 → r < 64 → S.owner s ≡ suc u → has (S.active s) r ≡ true → authorised (with_assigned S u w) u r ≡ true)
      → Separated (with_assigned S u w)
      → Ruled (with_assigned S u w)
  unfolding effective
  assigned_keeps u w k d = record {
    is_reflexive = f.is_reflexive;
    is_transitive = f.is_transitive;
    is_antisymmetric = f.is_antisymmetric;
    grants_permitted = f.grants_permitted;
    owners_known = f.owners_known;
    idle_no_roles = f.idle_no_roles;
    idle_no_openings = f.idle_no_openings;
    active_authorised = λ s r hs hr m.
        by_truth (idle S s)
        (λ i. absurd (not_empty (S.active s) r m (f.idle_no_roles s hs i)))
        (λ i.
        let n = eqb-false (S.owner s) 0 i in
        may_activate_busy S' s r i ∙
        by_truth (eqb (user S s) u)
        (λ b. let e = eqb-true (user S s) u b in ap (λ (v : ℕ). authorised S' v r) e ∙ k s r hs hr (omega arith) m)
        (λ b.
        authorised_same S' S refl (user S s) r (upd_other S.assigned u w (user S s) (eqb-false (user S s) u b))
        ∙ sym (may_activate_busy S s r i) ∙ f.active_authorised s r hs hr m));
    openings_effective = f.openings_effective;
    is_linked = f.is_linked;
    is_separated = d;
  }
    where
      S' : State
      S' = with_assigned S u w

  -- the roles granted (x, o): only where it is a permission, and what is held of it stays effective
  pub granted_keeps : (x o w : ℕ)
      → ((r : ℕ) → r < 64 → has w r ≡ true → permission S x o ≡ true)
      → ((s : ℕ) → s < 32 → has (S.holds s x) o ≡ true → effective (with_granted S x o w) s x o ≡ true)
      → Ruled (with_granted S x o w)
  unfolding covers authorised may_activate
  granted_keeps x o w k l = record {
    is_reflexive = f.is_reflexive;
    is_transitive = f.is_transitive;
    is_antisymmetric = f.is_antisymmetric;
    grants_permitted = λ y p r hy hp hr m.
        by_grid S.granted x o w y p
        (λ e e'. ap₂ (λ (a b : ℕ). permission S a b) e e'
        ∙ k r hr (sym (ap₂ (λ (a b : ℕ). has (S'.granted a b) r) e e' ∙ ap (λ (v : ℕ). has v r) (grid_same S.granted x o w)) ∙ m))
        (λ e. f.grants_permitted y p r hy hp hr (sym (ap (λ (v : ℕ). has v r) e) ∙ m));
    owners_known = f.owners_known;
    idle_no_roles = f.idle_no_roles;
    idle_no_openings = f.idle_no_openings;
    active_authorised = f.active_authorised;
    openings_effective = λ s y p hs hy hp m.
        by_grid S.granted x o w y p
        (λ e e'. ap₂ (λ (a b : ℕ). effective S' s a b) e e' ∙ l s hs (sym (ap₂ (λ (a b : ℕ). has (S.holds s a) b) e e') ∙ m))
        (λ e. effective_same S' S refl s y p refl e refl ∙ f.openings_effective s y p hs hy hp m);
    is_linked = f.is_linked;
    is_separated = same_separated S _ f.is_separated refl refl refl refl;
  }
    where
      S' : State
      S' = with_granted S x o w

  -- an idle session is given to user u
  pub start_keeps : (s u : ℕ) → s < 32 → u < 64 → idle S s ≡ true → Ruled (with_owner S s (suc u))
  unfolding effective
  start_keeps s u hs hu i = record {
    is_reflexive = f.is_reflexive;
    is_transitive = f.is_transitive;
    is_antisymmetric = f.is_antisymmetric;
    grants_permitted = f.grants_permitted;
    owners_known = λ p hp. by_upd S.owner s (suc u) (λ (v : ℕ). v ≤ 64) p (λ e. omega arith) (λ n. f.owners_known p hp);
    idle_no_roles = λ p hp z. f.idle_no_roles p hp (was_idle p z);
    idle_no_openings = λ p x hp hx z. f.idle_no_openings p x hp hx (was_idle p z);
    active_authorised = λ p r hp hr m.
        by_truth (eqb p s)
        (λ b. absurd (not_empty (S.active p) r m (f.idle_no_roles p hp (ap (λ (n : ℕ). idle S n) (eqb-true p s b) ∙ i))))
        (λ b.
        may_activate_same (with_owner S s (suc u)) S refl p r refl (upd_other S.owner s (suc u) p (eqb-false p s b))
        ∙ f.active_authorised p r hp hr m);
    openings_effective = f.openings_effective;
    is_linked = f.is_linked;
    is_separated = same_separated S _ f.is_separated refl refl refl refl;
  }
    where
      was_idle : (p : ℕ) → idle (with_owner S s (suc u)) p ≡ true → idle S p ≡ true
      was_idle p z =
          by_upd S.owner s (suc u) (λ (v : ℕ). eqb v 0 ≡ true → idle S p ≡ true) p
          (λ e y. ap (λ (n : ℕ). idle S n) e ∙ i) (λ n y. y) z

  -- session s is made idle, without roles and openings
  pub end_keeps : (s : ℕ) → Ruled (with_holds (with_active (with_owner S s 0) s 0) s (λ x. 0))
  end_keeps s = record {
    is_reflexive = f.is_reflexive;
    is_transitive = f.is_transitive;
    is_antisymmetric = f.is_antisymmetric;
    grants_permitted = f.grants_permitted;
    owners_known = λ p hp. by_upd S.owner s 0 (λ (v : ℕ). v ≤ 64) p (λ e. omega arith) (λ n. f.owners_known p hp);
    idle_no_roles = λ p hp z.
        by_upd S.active s 0 (λ (v : ℕ). v ≡ 0) p (λ e. refl) (λ n. f.idle_no_roles p hp (sym (other_idle p n) ∙ z));
    idle_no_openings = λ p x hp hx z.
        by_upd S.holds s (λ x. 0) (λ (g : ℕ → ℕ). g x ≡ 0) p (λ e. refl) (λ n. f.idle_no_openings p x hp hx (sym (other_idle p n) ∙ z));
    active_authorised = λ p r hp hr m.
        by_upd S.active s 0 (λ (v : ℕ). has v r ≡ true → may_activate S' p r ≡ true) p
        (λ e q. clash q (has_zero r))
        (λ n q. may_activate_same S' S refl p r refl (upd_other S.owner s 0 p n) ∙ f.active_authorised p r hp hr q) m;
    openings_effective = λ p x o hp hx ho m.
        by_upd S.holds s (λ x. 0) (λ (g : ℕ → ℕ). has (g x) o ≡ true → effective S' p x o ≡ true) p
        (λ e q. clash q (has_zero o))
        (λ n q. effective_same S' S refl p x o refl refl (upd_other S.active s 0 p n) ∙ f.openings_effective p x o hp hx ho q) m;
    is_linked = f.is_linked;
    is_separated = ended_separated S f.is_separated s;
  }
    where
      S' : State
      S' = with_holds (with_active (with_owner S s 0) s 0) s (λ x. 0)

      other_idle : (p : ℕ) → (p ≡ s → ⊥) → idle S' p ≡ idle S p
      other_idle p n = ap (λ (v : ℕ). eqb v 0) (upd_other S.owner s 0 p n)

  -- other direct juniors: no two roles reach each other, and active roles, openings and sets fit the new seniority
  pub direct_keeps : (d : ℕ → ℕ) → let S' = set_direct S d in
      ((r : ℕ) → r < 64 → has (d r) r ≡ false)
      → ((r q : ℕ) → r < 64 → q < 64 → senior S' r q ≡ true → senior S' q r ≡ true → r ≡ q)
      → ((s r : ℕ) → s < 32 → r < 64 → has (S.active s) r ≡ true → may_activate S' s r ≡ true)
      → ((s x o : ℕ) → s < 32 → x < 8 → o < 64 → has (S.holds s x) o ≡ true → effective S' s x o ≡ true)
      → Separated S'
      → Ruled S'
  direct_keeps d o w a e k = record {
    is_reflexive = linked_reflexive l;
    is_transitive = linked_transitive l;
    is_antisymmetric = w;
    grants_permitted = f.grants_permitted;
    owners_known = f.owners_known;
    idle_no_roles = f.idle_no_roles;
    idle_no_openings = f.idle_no_openings;
    active_authorised = a;
    openings_effective = e;
    is_linked = l;
    is_separated = k;
  }
    where
      l : Linked (closed_row d) d
      l = closure_linked (closed_row d) d o (λ r h. refl)
