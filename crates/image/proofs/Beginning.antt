-- The label set-up's claims, and the machine at its start. Assumes nothing.
use Prim.Native.Nat.{ℕ}
use mathlib.Core.Path.{◌≡◌, refl, sym, ap, ◌∙◌}
use mathlib.Core.Bool.{true}
use mathlib.Core.List.{List}
use native.Mathlib.Omega.{arith}
use lib.Dec.{eqb}
use lib.ListN.{length}
use borrow.Author.Tests.{eqb-true, ltb-true}
use Rattle.bits.specs.Words.{◌and◌}
use Rattle.bits.proofs.Truth.{clash, by_truth, and_left, and_right}
use Rattle.bits.proofs.Below.{all_elim}
use Rattle.table.specs.Table.{is_table}
use Rattle.table.proofs.Table.{is_table_lem, table_length_lem}
use Rattle.sound.specs.Answers.{is_sound}
use Rattle.requests.specs.Request.{Outcome}
use Rattle.machine.proofs.Seats.{idle_at}
use Rattle.image.specs.Image.{image}
use Rattle.machine.specs.Machine.{begin}
use Rattle.image.specs.SetUp.{are_labels, label_set_up}
use Rattle.image.specs.Claims.{Ranged, Safe, SetUpSound, SetUpRefused, OldContents}
use Rattle.image.proofs.Accepting.{set_up_short, set_up_lists, set_up_values, set_up_accepted}
use Rattle.image.proofs.Claims.{sound_image}

-- what an accepted set-up has passed
pub record Passed (t clearances labels : List ℕ) : Type 0 where
  pub table : is_table t ≡ true
  pub long_clearances : length clearances ≡ 64
  pub long_labels : length labels ≡ 64
  pub clearances_known : are_labels clearances ≡ true
  pub labels_known : are_labels labels ≡ true

module _ (t clearances labels : List ℕ) where
  abbrev outcome : Outcome (List ℕ)
  outcome = label_set_up t clearances labels

  by_outcome : {A : Type 0} → ((n : ℕ) → (n ≡ 1 → ⊥) → outcome ≡ record { answer = n; spent = 0; state = t } → A)
      → (Passed t clearances labels → A) → A
  by_outcome f g =
      by_truth (is_table t)
      (λ i. by_truth (eqb (length clearances) 64 and eqb (length labels) 64)
      (λ l.
      let d = eqb-true (length clearances) 64 (and_left _ _ l) in
      let p = eqb-true (length labels) 64 (and_right _ _ l) in
      by_truth (are_labels clearances and are_labels labels)
      (λ a. g (record {
        table = i;
        long_clearances = d;
        long_labels = p;
        clearances_known = and_left _ _ a;
        labels_known = and_right (are_labels clearances) _ a;
      }))
      (λ a. f 19 (λ z. omega arith) (set_up_values t clearances labels i d p a)))
      (λ l. f 18 (λ z. omega arith) (set_up_lists t clearances labels i l)))
      (λ i. f 12 (λ z. omega arith) (set_up_short t clearances labels i))

  pub accepted : Passed t clearances labels → outcome ≡ record { answer = 1; spent = 0; state = image (begin clearances labels) }
  accepted p =
      set_up_accepted t clearances labels p.table p.long_clearances p.long_labels p.clearances_known p.labels_known

  -- what an answer of 1 says
  pub passed : outcome.answer ≡ 1 → Passed t clearances labels
  passed a = by_outcome (λ n k e. absurd (k (sym (ap (λ (o : Outcome (List ℕ)). o.answer) e) ∙ a))) (λ p. p)

-- ---- the machine at its start

module _ (clearances labels : List ℕ) where
  pub begin_ranged : are_labels clearances ≡ true → are_labels labels ≡ true → Ranged (begin clearances labels)
  unfolding begin are_labels
  begin_ranged a b = record {
    clearances = λ u h. ltb-true _ 32 (all_elim _ 64 a u h);
    labels = λ o h. ltb-true _ 32 (all_elim _ 64 b o h);
    seats = λ s u y h e. absurd (idle_at u y e);
  }

  pub begin_safe : Safe (begin clearances labels)
  unfolding begin
  begin_safe = record {
    cleared = λ s u y h e. absurd (idle_at u y e);
    openings = λ s o x hs ho hx e. clash e refl;
  }

-- ---- the claims

pub set_up_sound : SetUpSound
set_up_sound t clearances labels a =
    let p = passed t clearances labels a in
    ap (λ (o : Outcome (List ℕ)). is_sound o.state) (accepted t clearances labels p)
    ∙ (sound_image (begin clearances labels) (begin_ranged clearances labels p.clearances_known p.labels_known)).1 (begin_safe clearances labels)

pub set_up_refused : SetUpRefused
set_up_refused t clearances labels n =
    by_outcome t clearances labels
    (λ k h e. ap (λ (o : Outcome (List ℕ)). o.state) e)
    (λ p. absurd (n (ap (λ (o : Outcome (List ℕ)). o.answer) (accepted t clearances labels p))))

pub old_contents : OldContents
old_contents t t' clearances labels l a =
    let p = passed t clearances labels a in
    accepted t clearances labels p
    ∙ sym (accepted t' clearances labels (record {
      table = is_table_lem t' (sym l ∙ table_length_lem t p.table);
      long_clearances = p.long_clearances;
      long_labels = p.long_labels;
      clearances_known = p.clearances_known;
      labels_known = p.labels_known;
    }))
