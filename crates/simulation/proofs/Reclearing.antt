-- A reclear, no role request, two or three, on the image of a safe machine state. Assumes nothing.
use Prim.Native.Nat.{ℕ, suc, ◌<◌}
use mathlib.Core.Path.{◌≡◌, refl, sym, ap, ap₂, subst, ◌∙◌}
use mathlib.Core.Bool.{Bool, true, false}
use mathlib.Core.List.{List}
use native.Mathlib.Omega.{arith}
use lib.Dec.{eqb}
use borrow.Author.Tests.{eq-eqb, ne_eqb, eqb-true, eqb-false}
use Rattle.bits.specs.Words.{◌implies◌, when◌then◌else◌, upd, has, all, ◌with◌}
use Rattle.bits.specs.Sets.{each, ◌without◌}
use Rattle.bits.proofs.Truth.{by_truth, same_truth, if_true, if_false, implies_intro, implies_elim}
use Rattle.bits.proofs.Below.{all_intro, all_cong}
use Rattle.bits.proofs.Membership.{each_intro, each_elim}
use Rattle.table.specs.State.{State}
use Rattle.table.specs.Authority.{authorised}
use Rattle.table.specs.Changes.{with_assigned}
use Rattle.table.specs.Sound as table
use Rattle.table.specs.Reading.{state}
use Rattle.table.specs.Table.{encode}
use Rattle.table.proofs.Agree.{upd_same}
use Rattle.table.proofs.Encode.{state_encode, encode_cong}
use Rattle.sound.specs.Answers.{sessions_fit}
use Rattle.requests.specs.Request.{ask, decide}
use Rattle.rbac.specs.Guard.{role_step}
use Rattle.rbac.proofs.Requests.{next_sound, assign_is, deassign_is}
use Rattle.requests.proofs.Outcome.{decide_yes, decide_no}
use Rattle.machine.proofs.Order.{dominates}
use Rattle.machine.specs.Machine as machine
use Rattle.machine.specs.Machine.{Machine, Seat, at, fits, with_clearance, reclearing, act}
use Rattle.machine.proofs.Steps.{act_reclearing}
use Rattle.image.specs.Image.{cleared_roles, shown, image}
use Rattle.image.specs.Test.{machine_of}
use Rattle.image.specs.Claims.{Ranged, Safe}
use Rattle.image.proofs.Claims.{read_clearance}
use Rattle.image.proofs.Roles.{seat_elim, seat_reads, authorised_read, authorised_write}
use Rattle.image.proofs.Shown.{no_sets, safe_sound, shown_juniors, assigned_is, active_is, owner_is, seated}
use Rattle.labels.proofs.Carrying.{reclear_same, reclear_kept, reclear_changed}
use Rattle.simulation.proofs.Deciding.{Answered, answered_yes, answered_no, answered_on, pictured}
use Rattle.simulation.proofs.Changing.{roles_changed, roles_back, cleared_agrees, own_clearance}
use Rattle.simulation.proofs.Single.{no_owner, Simulated, decided}

module _ (m : Machine) (g : Ranged m) (f : Safe m) where
  abbrev S : State
  S = shown m

  sound : table.sound S ≡ true
  sound = safe_sound m g f

  -- the sessions of a user with the roles of clearance c fit when c dominates their levels
  module _ (u c : ℕ) (hu : u < 64) (hc : c < 32) (w0 w : ℕ) (e : w ≡ cleared_roles c) where
    abbrev given : State
    given = with_assigned (with_assigned S u w0) u w

    given_roles : given.assigned u ≡ cleared_roles c
    given_roles = upd_same (upd S.assigned u w0) u w ∙ e

    -- one session
    session_fits : (s : ℕ) → s < 32 → (k : Seat) → m.seat s ≡ k
        → (eqb (given.owner s) (suc u) implies each (given.active s) (λ r. authorised given u r)) ≡ fits u c k
    unfolding fits
    session_fits s hs machine.idle z =
        implies_intro _ _ (λ a. let p : S.owner s ≡ suc u = eqb-true _ _ a in let q = owner_is m s z ∙ sym no_owner in absurd (omega arith))
    session_fits s hs (at v y) z =
        same_truth
        (λ a. implies_intro _ _ (λ b. levels_hold (eqb-true v u b) (implies_elim _ _ a (eq-eqb _ _ (seated m s v y z ∙ ap suc (eqb-true v u b))))))
        (λ a. implies_intro _ _ (λ b. roles_hold (same_user_lem b) (implies_elim _ _ a (eq-eqb v u (same_user_lem b)))))
      where
        hy : y < 32
        hy = (g.seats s v y hs z).1

        same_user_lem : eqb (given.owner s) (suc u) ≡ true → v ≡ u
        same_user_lem b = let p : S.owner s ≡ suc u = eqb-true _ _ b in let q = seated m s v y z in omega arith

        levels_hold : v ≡ u → each (given.active s) (λ r. authorised given u r) ≡ true → dominates c y ≡ true
        levels_hold i a =
            sym (authorised_read given (shown_juniors m) u c hc given_roles y hy)
            ∙ each_elim _ _ a y (let l = hy in omega arith) (ap (λ (v : ℕ). has v y) (active_is m s z) ∙ seat_reads v y hy)

        roles_hold : v ≡ u → dominates c y ≡ true → each (given.active s) (λ r. authorised given u r) ≡ true
        roles_hold i d =
            each_intro _ _ (λ r h a. seat_elim v y r h (sym (ap (λ (v : ℕ). has v r) (active_is m s z)) ∙ a)
            (λ q. ap (authorised given u) q ∙ authorised_read given (shown_juniors m) u c hc given_roles y hy ∙ d)
            (λ q. ap (authorised given u) q ∙ authorised_write given (shown_juniors m) u c hc given_roles y hy))

    sessions_fit_lem : sessions_fit given u ≡ all 32 (λ s. fits u c (m.seat s))
    unfolding sessions_fit
    sessions_fit_lem = all_cong 32 (λ s h. session_fits s h (m.seat s) refl)

  -- the levels of a user's sessions are dominated by the clearance
  levels_fit_lem : (u : ℕ) → all 32 (λ s. fits u (m.clearance u) (m.seat s)) ≡ true
  levels_fit_lem u = all_intro _ 32 (λ s h. level_fits s h (m.seat s) refl)
    where
      level_fits : (s : ℕ) → s < 32 → (k : Seat) → m.seat s ≡ k → fits u (m.clearance u) k ≡ true
      level_fits s h machine.idle e = unfold fits in refl
      level_fits s h (at v y) e =
          unfold fits in implies_intro _ _ (λ b. ap (λ (v : ℕ). dominates (m.clearance v) y) (sym (eqb-true v u b)) ∙ f.cleared s v y h e)

  module _ (u c : ℕ) (hu : u < 64) (hc : c < 32) where
    abbrev k : ℕ
    k = m.clearance u

    hk : k < 32
    hk = g.clearances u hu

    read : (machine_of (state (encode S))).clearance u ≡ k
    read = read_clearance (state (encode S)) m g (state_encode S) u hu

    -- the same clearance
    reclear_own_same : k ≡ c → Simulated m (reclearing u c)
    reclear_own_same e =
        let b = eq-eqb k c e in
        reclear_same role_step (encode S) u c (ap (λ (n : ℕ). eqb n c) read ∙ b)
        ∙ ap (λ (t : List ℕ). record { answer = 1; spent = 0; state = t }) (sym (encode_cong (own_clearance m u c (sym e))))
        ∙ sym (decided m _ _ _ _ (reclearing u c) (act_reclearing m u c)
        ∙ decide_yes _ _ _ _ (ap (λ (n : ℕ). all 32 (λ s. fits u n (m.seat s))) (sym e) ∙ levels_fit_lem u)
        ∙ ap (λ (n : ℕ). record { answer = 1; spent = n; state = encode (shown (with_clearance m u c)) }) (if_true 0 2 b))

    -- another clearance
    module _ (n : k ≡ c → ⊥) where
      abbrev more : ℕ
      more = S.assigned u with c

      abbrev A1 : State
      A1 = with_assigned S u more

      added : Answered (encode S) (ask 7 u c 0) true (encode A1)
      added = answered_yes _ _ _ _ _ (assign_is S sound (no_sets m) u c hu (omega arith)) refl

      sound_added : table.sound A1 ≡ true
      sound_added = next_sound S A1 sound (ask 7 u c 0) added.table

      is_more : A1.assigned u ≡ cleared_roles k with c
      is_more = upd_same S.assigned u more ∙ ap (λ (w : ℕ). w with c) (assigned_is m u)

      new_roles : A1.assigned u without k ≡ cleared_roles c
      new_roles = ap (λ (w : ℕ). w without k) is_more ∙ roles_changed k c hk hc n

      old_roles : A1.assigned u without c ≡ cleared_roles k
      old_roles = ap (λ (w : ℕ). w without c) is_more ∙ roles_back k c hk hc n

      -- the request for the clearance that was read off the table
      read_off : {b : Bool} {t : List ℕ} → Answered (encode A1) (ask 8 u k 0) b t
          → Answered (role_step (encode S) (ask 7 u c 0)).state (ask 8 u ((machine_of (state (encode S))).clearance u) 0) b t
      read_off {b} {t} a = answered_on added.table (subst (λ (i : ℕ). Answered (encode A1) (ask 8 u i 0) b t) (sym read) a)

      differs : eqb ((machine_of (state (encode S))).clearance u) c ≡ false
      differs = ap (λ (i : ℕ). eqb i c) read ∙ ne_eqb k c n

      machine_says : {b : Bool} → all 32 (λ s. fits u c (m.seat s)) ≡ b
          → pictured (act m (reclearing u c)) ≡ decide b 2 3 (image (with_clearance m u c)) (image m)
      machine_says {b} e =
          decided m _ _ _ _ (reclearing u c) (act_reclearing m u c)
          ∙ ap (λ (d : Bool). decide d (when eqb k c then 0 else 2) (when eqb k c then 0 else 3) (image (with_clearance m u c)) (image m)) e
          ∙ ap₂ (λ (i j : ℕ). decide b i j (image (with_clearance m u c)) (image m)) (if_false 0 2 (ne_eqb k c n)) (if_false 0 3 (ne_eqb k c n))

      reclear_changed_same : all 32 (λ s. fits u c (m.seat s)) ≡ true → Simulated m (reclearing u c)
      reclear_changed_same e =
          let taken = read_off (answered_yes _ _ _ _ _ (deassign_is A1 sound_added u k hu (let l = hk in omega arith))
          (sessions_fit_lem u c hu hc more (A1.assigned u without k) new_roles ∙ e)) in
          reclear_changed role_step (encode S) u c differs taken.answer
          ∙ ap (λ (t : List ℕ). record { answer = 1; spent = 2; state = t })
          (taken.table ∙ encode_cong (cleared_agrees m u c more (A1.assigned u without k) new_roles))
          ∙ sym (machine_says e ∙ decide_yes 2 3 _ _ refl)

      reclear_kept_same : all 32 (λ s. fits u c (m.seat s)) ≡ false → Simulated m (reclearing u c)
      reclear_kept_same e =
          let kept = read_off (answered_no _ _ _ _ _ (deassign_is A1 sound_added u k hu (let l = hk in omega arith))
          (sessions_fit_lem u c hu hc more (A1.assigned u without k) new_roles ∙ e)) in
          let back = answered_yes _ _ _ _ _ (deassign_is A1 sound_added u c hu (omega arith))
          (sessions_fit_lem u k hu hk more (A1.assigned u without c) old_roles ∙ levels_fit_lem u) in
          reclear_kept role_step (encode S) u c differs kept.answer
          ∙ ap (λ (t : List ℕ). record { answer = 0; spent = 3; state = t })
          ((answered_on kept.table back).table
          ∙ encode_cong (cleared_agrees m u k more (A1.assigned u without c) old_roles)
          ∙ encode_cong (own_clearance m u k refl))
          ∙ sym (machine_says e ∙ decide_no 2 3 _ _ refl)

    pub reclear_all_same : Simulated m (reclearing u c)
    reclear_all_same =
        by_truth (eqb k c)
        (λ b. reclear_own_same (eqb-true k c b))
        (λ b. by_truth (all 32 (λ s. fits u c (m.seat s))) (reclear_changed_same (eqb-false k c b)) (reclear_kept_same (eqb-false k c b)))
