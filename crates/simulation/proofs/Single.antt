-- Label requests of one role request, all but reclear, on the image of a safe machine state. Assumes nothing.
use Prim.Native.Nat.{ℕ, ◌<◌}
use mathlib.Core.Path.{◌≡◌, refl, sym, ap, ap₂, ◌∙◌}
use mathlib.Core.Bool.{Bool, true, false, not}
use mathlib.Core.List.{List}
use native.Mathlib.Omega.{arith}
use lib.Dec.{ltb}
use Rattle.bits.specs.Words.{◌and◌}
use Rattle.bits.proofs.Truth.{and_false}
use Rattle.bits.proofs.Word.{pack_none, with_lt}
use Rattle.table.specs.State.{State}
use Rattle.table.specs.Changes.{with_owner, with_active, with_holds}
use Rattle.table.specs.Authority.{effective}
use Rattle.table.specs.Masks.{mask_of, refreshed_at}
use Rattle.table.specs.Sound as table
use Rattle.table.specs.Table.{encode}
use Rattle.table.proofs.Agree.{Agree, agree_trans, agree_with_holds}
use Rattle.table.proofs.Encode.{encode_cong}
use Rattle.requests.specs.Request.{decide}
use Rattle.rbac.specs.Guard.{role_step}
use Rattle.rbac.proofs.Requests.{open_is, close_is, start_is, end_is}
use Rattle.machine.specs.Machine as machine
use Rattle.machine.specs.Machine.{Machine, at, with_seat, with_openings, Request, opening, closing, starting, ending, act}
use Rattle.machine.proofs.Steps.{act_opening, act_closing, act_starting, act_ending}
use Rattle.image.specs.Image.{seat_roles, seat_owner, shown, image}
use Rattle.image.specs.Claims.{Ranged, Safe}
use Rattle.image.proofs.Roles.{authorised_seat}
use Rattle.image.proofs.Shown.{no_sets, safe_sound, shown_juniors, assigned_is, effective_shown, idle_shown}
use Rattle.labels.specs.Guard.{plan, carry_out}
use Rattle.simulation.proofs.Deciding.{single_decided, pictured, picture_decide}
use Rattle.simulation.proofs.Changing.{seated_ranged, idle_ranged, seat_agrees, openings_agree, opened_agrees, closed_agrees}

-- a label request on the image of m comes to what it comes to on m, with the image of what is left
abbrev pub Simulated : Machine → Request → Type 0
Simulated m r = carry_out role_step (image m) (plan role_step (image m) r) ≡ pictured (act m r)

-- the machine's decision, and the same decision about images
pub decided : (m : Machine) (b : Bool) (y n : ℕ) (new : Machine) (r : Request) → act m r ≡ decide b y n new m
    → pictured (act m r) ≡ decide b y n (image new) (image m)
decided m b y n new r e = ap pictured e ∙ picture_decide b y n new m

-- the word of an idle session's user
pub no_owner : 0 ≡ seat_owner machine.idle
unfolding seat_owner
no_owner = refl

module _ (m : Machine) (g : Ranged m) (f : Safe m) where
  abbrev S : State
  S = shown m

  sound : table.sound S ≡ true
  sound = safe_sound m g f

  pub open_same : (s o x : ℕ) → s < 32 → o < 64 → x < 2 → Simulated m (opening s o x)
  unfolding plan
  open_same s o x hs ho hx =
      single_decided _ _ _ _ _ (open_is S sound s o x hs ho (omega arith))
      ∙ ap₂ (λ (b : Bool) (t : List ℕ). decide b 1 1 t (encode S)) (effective_shown m g s x o hs hx ho) (encode_cong (opened_agrees m s o x ho hx))
      ∙ sym (decided m _ 1 1 _ (opening s o x) (act_opening m s o x))

  pub close_same : (s o x : ℕ) → s < 32 → o < 64 → x < 2 → Simulated m (closing s o x)
  unfolding plan
  close_same s o x hs ho hx =
      single_decided _ _ _ _ _ (close_is S sound s o x hs ho (omega arith))
      ∙ ap (λ (t : List ℕ). decide true 1 1 t (encode S)) (encode_cong (closed_agrees m s o x ho hx))
      ∙ sym (decided m _ 1 1 _ (closing s o x) (act_closing m s o x))

  pub start_same : (s u y : ℕ) → s < 32 → u < 64 → y < 32 → Simulated m (starting s u y)
  unfolding plan seat_owner seat_roles
  start_same s u y hs hu hy =
      single_decided _ _ _ _ _ (start_is S sound (no_sets m) s u (seat_roles (at u y)) hs hu (with_lt _ _))
      ∙ ap₂ (λ (b : Bool) (t : List ℕ). decide b 1 1 t (encode S))
      (ap₂ ◌and◌ (idle_shown m s) (authorised_seat S (shown_juniors m) u (m.clearance u) (g.clearances u hu) (assigned_is m u) u y hy))
      (encode_cong (seat_agrees m s (at u y) (seated_ranged m g s u y hu hy)))
      ∙ sym (decided m _ 1 1 _ (starting s u y) (act_starting m s u y))

  -- the image of an ended session
  ended : (s : ℕ)
      → Agree (refreshed_at s (with_holds (with_active (with_owner S s 0) s 0) s (λ x. 0))) (shown (with_openings (with_seat m s machine.idle) s (λ o x. false)))
  unfolding seat_owner seat_roles mask_of effective
  ended s =
      agree_trans
      (agree_with_holds (seat_agrees m s machine.idle (idle_ranged m g s)) s (λ x h. sym (pack_none 64 (λ o l. and_false (ltb x 2) refl))))
      (openings_agree (with_seat m s machine.idle) s (λ o x. false))

  pub end_same : (s : ℕ) → s < 32 → Simulated m (ending s)
  unfolding plan
  end_same s hs =
      single_decided _ _ _ _ _ (end_is S sound s hs)
      ∙ ap₂ (λ (b : Bool) (t : List ℕ). decide (not b) 1 1 t (encode S)) (idle_shown m s) (encode_cong (ended s))
      ∙ sym (decided m _ 1 1 _ (ending s) (act_ending m s))
