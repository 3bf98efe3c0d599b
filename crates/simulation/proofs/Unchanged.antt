-- A label request that is not answered yes leaves the table: it is refused, or the machine's state, whose image the table is,
-- stays. One on a sound image leaves an image. Assumes nothing.
use Prim.Native.Nat.{ℕ, ◌^◌, ◌<◌}
use mathlib.Core.Path.{◌≡◌, sym, ap, subst, ◌∙◌}
use mathlib.Core.Bool.{true}
use mathlib.Core.List.{List}
use Rattle.bits.proofs.Truth.{by_truth}
use Rattle.table.specs.Sound.{sound}
use Rattle.table.specs.Table.{is_table}
use Rattle.table.specs.Reading.{word, state}
use Rattle.table.proofs.Table.{table_length_lem}
use Rattle.sound.specs.Answers.{is_sound}
use Rattle.sound.proofs.Answers.{is_sound_table}
use Rattle.requests.specs.Request.{Ask, Outcome}
use Rattle.machine.specs.Machine.{Machine, step}
use Rattle.machine.proofs.Steps.{Case, stays, goes, cases}
use Rattle.image.specs.Image.{image}
use Rattle.image.specs.Test.{is_image}
use Rattle.image.proofs.Claims.{sound_image, image_means}
use Rattle.labels.specs.Guard.{label_step}
use Rattle.labels.proofs.Refusing.{label_step_short, label_step_unsound, label_step_none}
use Rattle.simulation.specs.Claims.{Unchanged, KeptImage}
use Rattle.simulation.proofs.Deciding.{pictured}
use Rattle.simulation.proofs.Simulation.{Good, one_step, next_good, image_passes}

state_of : {o o' : Outcome (List ℕ)} → o ≡ o' → o.state ≡ o'.state
state_of e = ap (λ (o : Outcome (List ℕ)). o.state) e

-- on the image of a machine state
image_stays : (m : Machine) → Good m → (q : Ask) → ((label_step (image m) q).answer ≡ 1 → ⊥) → (label_step (image m) q).state ≡ image m
image_stays m g q n = by_case (cases m q)
  where
    same : label_step (image m) q ≡ pictured (step m q)
    same = one_step m g q

    by_case : Case m q (step m q) → (label_step (image m) q).state ≡ image m
    by_case (stays k e) = state_of same ∙ ap image e
    by_case (goes d a y e) = absurd (n (ap (λ (o : Outcome (List ℕ)). o.answer) same ∙ y))

-- the state that a sound image shows
of_good : (P : List ℕ → Type 0) (t : List ℕ) → ((i : ℕ) → word t i < 2 ^ 64) → is_sound t ≡ true → is_image (state t) ≡ true
    → ((m : Machine) → Good m → P (image m)) → P t
of_good P t w f p k =
    let i = (image_means t w f).0 p in
    let safe = (sound_image i.machine i.ranged).0 (sym (ap is_sound i.is_image) ∙ f) in
    subst P (sym i.is_image) (k i.machine (record { ranged = i.ranged; safe = safe }))

pub kept_image : KeptImage
kept_image t w q f p =
    of_good (λ (l : List ℕ). is_image (state (label_step l q).state) ≡ true) t w f p (λ m g.
    ap (λ (l : List ℕ). is_image (state l)) (state_of (one_step m g q)) ∙ image_passes (step m q).state (next_good m g q))

pub unchanged : Unchanged
unchanged t w q n =
    by_truth (is_table t)
    (λ i. by_truth (sound (state t))
    (λ s. by_truth (is_image (state t))
    (λ p. of_good (λ (l : List ℕ). ((label_step l q).answer ≡ 1 → ⊥) → (label_step l q).state ≡ l) t w (is_sound_table t (table_length_lem t i) s) p
    (λ m g. image_stays m g q) n)
    (λ p. state_of (label_step_none t q i s p)))
    (λ s. state_of (label_step_unsound t q i s)))
    (λ i. state_of (label_step_short t q i))
