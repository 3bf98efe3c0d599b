-- The claims of specs/Claims.antt. Assumes nothing.
use Prim.Native.Nat.{ℕ, ◌≤◌}
use mathlib.Core.Path.{◌≡◌, sym, ap, subst, ◌∙◌}
use mathlib.Core.Bool.{Bool}
use mathlib.Core.List.{List}
use native.Mathlib.Omega.{arith}
use lib.Dec.{eqb}
use lib.ListN.{length}
use Rattle.bits.proofs.Truth.{by_truth, if_true, if_false, past, stopped}
use Rattle.table.specs.Sound.{sound}
use Rattle.table.specs.Table.{is_table}
use Rattle.table.specs.Reading.{state}
use Rattle.sound.specs.Answers.{is_sound}
use Rattle.sound.proofs.Answers.{sound_state, sound_table}
use Rattle.requests.specs.Request.{Ask, Outcome}
use Rattle.rbac.specs.Guard.{role_step}
use Rattle.machine.specs.Machine.{Request, opening, closing, starting, ending, reclearing, is_code, in_range, decode}
use Rattle.image.specs.Test.{machine_of, is_image}
use Rattle.labels.specs.Guard.{Plan, single, reclear_plan, plan, carry_out, label_step}
use Rattle.labels.specs.Claims.{ServedSame, KeptSound, AtMostThree}
use Rattle.labels.proofs.Refusing.{translated_code, translated_argument, translated_plan, image_step_table, label_step_short, label_step_unsound, label_step_none, label_step_image}
use Rattle.labels.proofs.Same.{run_sound, translated_same}

pub served_same : ServedSame
served_same t q f i =
    image_step_table t q (sound_table t f)
    ∙ translated_same t q f
    ∙ sym (label_step_image t q (sound_table t f) (sound_state t f) i)

-- a label request is refused, or its translation carried out
by_step : {A : Type 0} (t : List ℕ) (q : Ask) → ((n : ℕ) → label_step t q ≡ record { answer = n; spent = 0; state = t } → A)
    → (label_step t q ≡ carry_out role_step t (plan role_step t (decode q)) → A) → A
by_step t q f g =
    by_truth (is_table t)
    (λ i. by_truth (sound (state t))
    (λ s. by_truth (is_image (state t))
    (λ m.
    let e = label_step_image t q i s m in
    by_truth (is_code q)
    (λ c. by_truth (in_range q)
    (λ r. g (e ∙ translated_plan role_step t q c r))
    (λ r. f 16 (e ∙ translated_argument role_step t q c r)))
    (λ c. f 15 (e ∙ translated_code role_step t q c)))
    (λ m. f 14 (label_step_none t q i s m)))
    (λ s. f 13 (label_step_unsound t q i s)))
    (λ i. f 12 (label_step_short t q i))

pub kept_sound : KeptSound
unfolding carry_out
kept_sound t q f =
    by_step t q
    (λ n e. ap (λ (o : Outcome (List ℕ)). is_sound o.state) e ∙ f)
    (λ e. ap (λ (o : Outcome (List ℕ)). is_sound o.state) e ∙ run_sound (plan role_step t (decode q)).requests t f)

reclear_short : (old : ℕ) (b : Bool) (u c : ℕ) → length (reclear_plan old b u c).requests ≤ 3
unfolding reclear_plan
reclear_short old b u c =
    by_truth (eqb old c)
    (λ p. at_most (if_true _ _ p) (omega arith))
    (λ p. by_truth b
    (λ r. at_most (if_false _ _ p ∙ past _ _ r) (omega arith))
    (λ r. at_most (if_false _ _ p ∙ stopped _ _ r) (omega arith)))
  where
    at_most : {p p' : Plan} → p ≡ p' → length p'.requests ≤ 3 → length p.requests ≤ 3
    at_most e h = subst (λ (p : Plan). length p.requests ≤ 3) (sym e) h

plan_short : (t : List ℕ) (r : Request) → length (plan role_step t r).requests ≤ 3
unfolding plan single
plan_short t (opening s o x) = omega arith
plan_short t (closing s o x) = omega arith
plan_short t (starting s u y) = omega arith
plan_short t (ending s) = omega arith
plan_short t (reclearing u c) = reclear_short ((machine_of (state t)).clearance u) _ u c

pub at_most_three : AtMostThree
unfolding carry_out
at_most_three t q =
    by_step t q
    (λ n e. subst (λ (o : Outcome (List ℕ)). o.spent ≤ 3) (sym e) (omega arith))
    (λ e. subst (λ (o : Outcome (List ℕ)). o.spent ≤ 3) (sym e) (plan_short t (decode q)))
