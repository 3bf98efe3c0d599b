-- One label request on the image of a safe machine state comes to what the machine comes to, with the image of its next
-- state. Assumes nothing.
use Prim.Native.Nat.{ℕ, ◌<◌}
use mathlib.Core.Path.{◌≡◌, sym, ap, subst, ◌∙◌}
use mathlib.Core.Bool.{true}
use mathlib.Core.List.{List}
use Rattle.bits.proofs.Truth.{by_truth}
use Rattle.table.specs.Reading.{state}
use Rattle.table.specs.Table.{encode}
use Rattle.table.proofs.Agree.{by_upd}
use Rattle.table.proofs.Encode.{state_encode}
use Rattle.sound.specs.Answers.{is_sound}
use Rattle.sound.proofs.Answers.{sound_state, sound_table}
use Rattle.requests.specs.Request.{Ask, Outcome}
use Rattle.rbac.specs.Guard.{role_step}
use Rattle.machine.specs.Machine as machine
use Rattle.machine.specs.Machine.{Machine, Request, is_code, in_range, step}
use Rattle.machine.proofs.Steps.{Decoded, is_opening, is_closing, is_starting, is_ending, is_reclearing, decoded, step_code, step_argument, step_does, Case, stays, goes, cases}
use Rattle.image.specs.Image.{shown, image}
use Rattle.image.specs.Test.{is_image}
use Rattle.image.specs.Claims.{Ranged, Safe}
use Rattle.image.proofs.Claims.{sound_image, passes}
use Rattle.labels.specs.Guard.{label_step, image_step}
use Rattle.labels.proofs.Claims.{served_same, kept_sound}
use Rattle.labels.proofs.Refusing.{translated_code, translated_argument, translated_plan, label_step_image}
use Rattle.simulation.proofs.Deciding.{pictured, picture_refuse}
use Rattle.simulation.proofs.Changing.{seated_ranged, idle_ranged}
use Rattle.simulation.proofs.Single.{Simulated, open_same, close_same, start_same, end_same}
use Rattle.simulation.proofs.Reclearing.{reclear_all_same}

-- what a request leaves is in range
next_ranged : (m : Machine) → Ranged m → (q : Ask) {o : Outcome Machine} → Case m q o → Ranged o.state
unfolding machine.next
next_ranged m g q (stays n e) = subst Ranged (sym e) g
next_ranged m g q (goes (is_opening d i j l) a y e) =
    subst Ranged (sym e) (record { clearances = g.clearances; labels = g.labels; seats = g.seats })
next_ranged m g q (goes (is_closing d i j l) a y e) =
    subst Ranged (sym e) (record { clearances = g.clearances; labels = g.labels; seats = g.seats })
next_ranged m g q (goes (is_starting d i j l) a y e) =
    subst Ranged (sym e) (seated_ranged m g q.a q.b q.c j l)
next_ranged m g q (goes (is_ending d i j l) a y e) =
    let r = idle_ranged m g q.a in
    subst Ranged (sym e) (record { clearances = r.clearances; labels = r.labels; seats = r.seats })
next_ranged m g q (goes (is_reclearing d i j l) a y e) =
    subst Ranged (sym e) (record {
      clearances = λ v h. by_upd m.clearance q.a q.b (λ (n : ℕ). n < 32) v (λ n. j) (λ n. g.clearances v h);
      labels = g.labels;
      seats = g.seats;
    })

pub record Good (m : Machine) : Type 0 where
  pub ranged : Ranged m
  pub safe : Safe m

module _ (m : Machine) (g : Good m) where
  abbrev w : Ranged m
  w = g.ranged

  by_request : {q : Ask} {r : Request} → Decoded q r → Simulated m r
  by_request {q} (is_opening d i j l) = open_same m w g.safe q.a q.b q.c i j l
  by_request {q} (is_closing d i j l) = close_same m w g.safe q.a q.b q.c i j l
  by_request {q} (is_starting d i j l) = start_same m w g.safe q.a q.b q.c i j l
  by_request {q} (is_ending d i j l) = end_same m w g.safe q.a i
  by_request {q} (is_reclearing d i j l) = reclear_all_same m w g.safe q.a q.b i j

  image_sound : is_sound (image m) ≡ true
  image_sound = (sound_image m w).1 g.safe

  pub image_passes : is_image (state (image m)) ≡ true
  image_passes = passes (state (encode (shown m))) m w (state_encode (shown m))

  pub one_step : (q : Ask) → label_step (image m) q ≡ pictured (step m q)
  one_step q =
      label_step_image (image m) q (sound_table (image m) image_sound) (sound_state (image m) image_sound) image_passes
      ∙ by_truth (is_code q)
      (λ c. by_truth (in_range q)
      (λ r. translated_plan role_step (image m) q c r ∙ by_request (decoded q c r) ∙ ap pictured (sym (step_does m q c r)))
      (λ r. translated_argument role_step (image m) q c r ∙ sym (ap pictured (step_argument m q c r) ∙ picture_refuse 16 m)))
      (λ c. translated_code role_step (image m) q c ∙ sym (ap pictured (step_code m q c) ∙ picture_refuse 15 m))

  -- the request without the tests of soundness and image comes to the same
  pub one_step_served : (q : Ask) → image_step (image m) q ≡ pictured (step m q)
  one_step_served q = served_same (image m) q image_sound image_passes ∙ one_step q

  -- the next state is in range, and safe since the role guard keeps its image sound
  pub next_good : (q : Ask) → Good (step m q).state
  next_good q =
      let r = next_ranged m w q (cases m q) in
      record {
        ranged = r;
        safe = (sound_image (step m q).state r).0 (sym (ap (λ (o : Outcome (List ℕ)). is_sound o.state) (one_step q)) ∙ kept_sound (image m) q image_sound);
      }
