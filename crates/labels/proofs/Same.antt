-- On a sound table it makes no difference by which of the two role guards a label request is translated. Assumes nothing.
use Prim.Native.Nat.{ℕ, ◌+◌}
use mathlib.Core.Path.{◌≡◌, refl, sym, ap, ◌∙◌}
use mathlib.Core.Bool.{Bool, true}
use mathlib.Core.List.{List, [], ◌∷◌}
use lib.Dec.{eqb}
use lib.ListN.{length}
use Rattle.bits.specs.Words.{◌with◌}
use Rattle.bits.proofs.Truth.{by_truth}
use Rattle.table.specs.Reading.{state}
use Rattle.sound.specs.Answers.{is_sound}
use Rattle.requests.specs.Request.{Ask, ask, Outcome}
use Rattle.rbac.specs.Guard.{role_step, sound_step}
use Rattle.rbac.proofs.Claims.{served_same}
use Rattle.rbac.proofs.Steps.{step_sound}
use Rattle.machine.specs.Machine.{Request, opening, closing, starting, ending, reclearing, is_code, in_range, decode}
use Rattle.image.specs.Test.{machine_of}
use Rattle.labels.specs.Guard.{single, reclear_plan, says_yes, plan, run, carry_out, translated}
use Rattle.labels.proofs.Refusing.{translated_code, translated_argument, translated_plan}

yes_same : (t : List ℕ) → is_sound t ≡ true → (q : Ask) → says_yes sound_step t q ≡ says_yes role_step t q
unfolding says_yes
yes_same t f q = ap (λ (o : Outcome (List ℕ)). eqb o.answer 1) (served_same t q f)

module _ (t : List ℕ) (f : is_sound t ≡ true) where
  step : (q : Ask) → sound_step t q ≡ role_step t q
  step q = served_same t q f

  after : (q : Ask) → (sound_step t q).state ≡ (role_step t q).state
  after q = ap (λ (o : Outcome (List ℕ)). o.state) (step q)

  -- the answer to the second of two requests
  yes_next : (p q : Ask) → says_yes sound_step (sound_step t p).state q ≡ says_yes role_step (role_step t p).state q
  yes_next p q = ap (λ (l : List ℕ). says_yes sound_step l q) (after p) ∙ yes_same (role_step t p).state (step_sound t p f) q

  single_same : (q : Ask) → single sound_step t q ≡ single role_step t q
  unfolding single
  single_same q = ap (λ (o : Outcome (List ℕ)). record { answer = o.answer; requests = q ∷ [] }) (step q)

  plan_same : (r : Request) → plan sound_step t r ≡ plan role_step t r
  unfolding plan
  plan_same (opening s o x) = single_same (ask 1 s o x)
  plan_same (closing s o x) = single_same (ask 2 s o x)
  plan_same (starting s u y) = single_same (ask 3 s u (0 with y with (32 + y)))
  plan_same (ending s) = single_same (ask 4 s 0 0)
  plan_same (reclearing u c) =
      ap (λ (b : Bool). reclear_plan ((machine_of (state t)).clearance u) b u c) (yes_next (ask 7 u c 0) (ask 8 u ((machine_of (state t)).clearance u) 0))

run_same : (qs : List Ask) (t : List ℕ) → is_sound t ≡ true → run sound_step t qs ≡ run role_step t qs
unfolding run
run_same [] t f = refl
run_same (q ∷ qs) t f = ap (λ (l : List ℕ). run sound_step l qs) (after t f q) ∙ run_same qs (role_step t q).state (step_sound t q f)

pub run_sound : (qs : List Ask) (t : List ℕ) → is_sound t ≡ true → is_sound (run role_step t qs) ≡ true
unfolding run
run_sound [] t f = f
run_sound (q ∷ qs) t f = run_sound qs (role_step t q).state (step_sound t q f)

carried_same : (t : List ℕ) → is_sound t ≡ true → (r : Request) → carry_out sound_step t (plan sound_step t r) ≡ carry_out role_step t (plan role_step t r)
unfolding carry_out
carried_same t f r =
    ap (carry_out sound_step t) (plan_same t f r)
    ∙ ap (λ (l : List ℕ). record { answer = (plan role_step t r).answer; spent = length (plan role_step t r).requests; state = l })
    (run_same (plan role_step t r).requests t f)

pub translated_same : (t : List ℕ) (q : Ask) → is_sound t ≡ true → translated sound_step t q ≡ translated role_step t q
translated_same t q f =
    by_truth (is_code q)
    (λ c. by_truth (in_range q)
    (λ r. translated_plan sound_step t q c r ∙ carried_same t f (decode q) ∙ sym (translated_plan role_step t q c r))
    (λ r. translated_argument sound_step t q c r ∙ sym (translated_argument role_step t q c r)))
    (λ c. translated_code sound_step t q c ∙ sym (translated_code role_step t q c))
