-- What transcripts know of lattice mode: the laws of the label set-up and of label requests. Assumes nothing.
use Prim.Native.Nat.{ℕ, ◌≤◌, ◌<◌}
use mathlib.Core.Path.{◌≡◌, refl, sym, ap, ◌∙◌}
use mathlib.Core.Bool.{Bool, true}
use mathlib.Core.List.{List}
use native.Mathlib.Omega.{arith}
use lib.Dec.{eqb}
use lib.ListN.{length}
use borrow.Author.Tests.{eqb-true}
use Rattle.bits.specs.Words.{◌and◌}
use Rattle.bits.proofs.Truth.{by_truth, and_left, and_right}
use Rattle.table.specs.Table.{is_table}
use Rattle.sound.specs.Answers.{is_sound}
use Rattle.requests.specs.Request.{Ask, Outcome, refuse, decide, accept}
use Rattle.machine.specs.Machine.{Machine, is_code, in_range, decode, allowed, step, begin}
use Rattle.machine.proofs.Steps.{step_code, step_argument, step_act}
use Rattle.image.specs.Image.{image}
use Rattle.image.specs.SetUp.{are_labels, label_set_up}
use Rattle.image.specs.Claims.{Imaged}
use Rattle.image.proofs.Claims.{sound_image}
use Rattle.image.proofs.Accepting.{set_up_short, set_up_lists, set_up_values, set_up_accepted}
use Rattle.image.proofs.Beginning.{passed, accepted, begin_ranged, set_up_sound, set_up_refused}
use Rattle.labels.specs.Guard.{label_step, image_step}
use Rattle.labels.proofs.Refusing.{is_code_lem}
use Rattle.labels.proofs.Claims.{kept_sound}
use Rattle.simulation.proofs.Deciding.{pictured, picture_decide, picture_refuse}
use Rattle.simulation.proofs.Simulation.{Good, one_step, one_step_served, next_good}
use Rattle.ledger.proofs.Spending.{decided_small, spends}

-- ---- the set-up

module _ (t clearances labels : List ℕ) where
  pub label_set_up_sound : (label_set_up t clearances labels).answer ≡ 1
      → (is_sound (label_set_up t clearances labels).state ≡ true) × Imaged (label_set_up t clearances labels).state
  label_set_up_sound a =
      let p = passed t clearances labels a in (
        set_up_sound t clearances labels a,
        record {
          machine = begin clearances labels;
          ranged = begin_ranged clearances labels p.clearances_known p.labels_known;
          is_image = ap (λ (o : Outcome (List ℕ)). o.state) (accepted t clearances labels p);
        },
      )

  pub label_set_up_refused : ((label_set_up t clearances labels).answer ≡ 1 → ⊥) → (label_set_up t clearances labels).state ≡ t
  label_set_up_refused h = set_up_refused t clearances labels h

-- of two lists that are tables or are not: both refused alike, or both accepted with the same table
module _ (t u clearances labels : List ℕ) (same : is_table t ≡ is_table u) where
  pub by_label_set_up : {A : Type 0} → ((n : ℕ) → (n ≡ 1 → ⊥) → label_set_up t clearances labels ≡ refuse n t → label_set_up u clearances labels ≡ refuse n u → A)
      → ((new : List ℕ) → label_set_up t clearances labels ≡ accept new → label_set_up u clearances labels ≡ accept new → A) → A
  by_label_set_up f g =
      by_truth (is_table t)
      (λ i. by_truth (eqb (length clearances) 64 and eqb (length labels) 64)
      (λ l.
      let c = eqb-true (length clearances) 64 (and_left _ _ l) in
      let k = eqb-true (length labels) 64 (and_right _ _ l) in
      by_truth (are_labels clearances and are_labels labels)
      (λ v.
      let x = and_left _ _ v in
      let y = and_right (are_labels clearances) _ v in
      g _ (set_up_accepted t clearances labels i c k x y) (set_up_accepted u clearances labels (sym same ∙ i) c k x y))
      (λ v. f 19 (λ z. omega arith) (set_up_values t clearances labels i c k v) (set_up_values u clearances labels (sym same ∙ i) c k v)))
      (λ l. f 18 (λ z. omega arith) (set_up_lists t clearances labels i l) (set_up_lists u clearances labels (sym same ∙ i) l)))
      (λ i. f 12 (λ z. omega arith) (set_up_short t clearances labels i) (set_up_short u clearances labels (sym same ∙ i)))

pub label_set_up_spends : (t clearances labels : List ℕ) → 0 ≡ (label_set_up t clearances labels).spent
label_set_up_spends t clearances labels = by_label_set_up t t clearances labels refl (λ n k e f. spends e) (λ new e f. spends e)

-- ---- requests on the image of a machine state

module _ (t : List ℕ) (q : Ask) (h : (is_sound t ≡ true) × Imaged t) where
  abbrev m : Machine
  m = h.1.machine

  good : Good m
  good = record {
    ranged = h.1.ranged;
    safe = (sound_image m h.1.ranged).0 (sym (ap is_sound h.1.is_image) ∙ h.0);
  }

  -- the request comes to what the machine comes to, with the image of its next state
  machined : label_step t q ≡ pictured (step m q)
  machined = ap (λ (l : List ℕ). label_step l q) h.1.is_image ∙ one_step m good q

  pub label_same : image_step t q ≡ label_step t q
  label_same = ap (λ (l : List ℕ). image_step l q) h.1.is_image ∙ one_step_served m good q ∙ sym machined

  pub label_sound : (is_sound (label_step t q).state ≡ true) × Imaged (label_step t q).state
  label_sound = (
    kept_sound t q h.0,
    record {
      machine = (step m q).state;
      ranged = (next_good m good q).ranged;
      is_image = ap (λ (o : Outcome (List ℕ)). o.state) machined;
    },
  )

  pub label_refused : 1 < (label_step t q).answer → ((label_step t q).state ≡ t) × ((label_step t q).spent ≡ 0)
  label_refused k =
      by_truth (is_code q)
      (λ c. by_truth (in_range q)
      (λ r. absurd (omega (arith, decided_small (allowed m (decode q)) _ _ _ _ (machined ∙ ap pictured (step_act m q c r) ∙ picture_decide (allowed m (decode q)) _ _ _ m))))
      (λ r. left 16 (machined ∙ ap pictured (step_argument m q c r) ∙ picture_refuse 16 m)))
      (λ c. left 15 (machined ∙ ap pictured (step_code m q c) ∙ picture_refuse 15 m))
    where
      left : (n : ℕ) → label_step t q ≡ refuse n (image m) → ((label_step t q).state ≡ t) × ((label_step t q).spent ≡ 0)
      left n e = (ap (λ (o : Outcome (List ℕ)). o.state) e ∙ sym h.1.is_image, ap (λ (o : Outcome (List ℕ)). o.spent) e)

  -- a request of a code from 1 to 5: refusal 16, or yes or no
  pub by_label : {A : Type 0} → 1 ≤ q.code → q.code ≤ 5 → (label_step t q ≡ refuse 16 (image m) → A)
      → ((b : Bool) (y n : ℕ) (new old : List ℕ) → label_step t q ≡ decide b y n new old → A) → A
  by_label l k f g =
      let c = is_code_lem q l k in
      by_truth (in_range q)
      (λ r. g (allowed m (decode q)) _ _ _ _ (machined ∙ ap pictured (step_act m q c r) ∙ picture_decide (allowed m (decode q)) _ _ _ m))
      (λ r. f (machined ∙ ap pictured (step_argument m q c r) ∙ picture_refuse 16 m))
