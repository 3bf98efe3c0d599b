-- The refusals of a run in their order, and what follows them. Assumes nothing.
use Prim.Native.Nat.{ℕ, ◌*◌, ◌/◌, ◌%◌}
use mathlib.Core.Path.{◌≡◌, sym, ap, ap₂, ◌∙◌}
use mathlib.Core.Bool.{true, false}
use mathlib.Core.List.{List}
use lib.ListN.{length}
use borrow.Author.Tests.{eq-eqb, ne_eqb}
use Rattle.bits.proofs.Truth.{past, stopped, and_intro, false_and, and_false}
use Rattle.table.specs.Table.{is_table}
use Rattle.machine.specs.Machine.{begin}
use Rattle.machine.specs.Wall.{trace, final}
use Rattle.image.specs.SetUp.{label_set_up}
use Rattle.image.proofs.Beginning.{set_up_refused}
use Rattle.labels.specs.Guard.{image_step}
use Rattle.simulation.specs.Run.{asks, flat, paired, Left, kept, machine_run}
use Rattle.simulation.proofs.Simulation.{one_step_served}
use Rattle.simulation.proofs.Demand.{trace_agrees, final_agrees, begin_good, begin_table}

-- the three clauses of a contract
pub three : {n : ℕ} {t out : List ℕ} {l : Left} → l ≡ kept n t out → record { answer : n ≡ l.answer; table : t ≡ l.table; replies : out ≡ l.replies }
unfolding kept
three e = record {
  answer = sym (ap (λ (l : Left). l.answer) e);
  table = sym (ap (λ (l : Left). l.table) e);
  replies = sym (ap (λ (l : Left). l.replies) e);
}

module _ (t clearances labels words old : List ℕ) where
  abbrev outcome : Left
  outcome = machine_run t clearances labels words old

  pub run_short : is_table t ≡ false → outcome ≡ kept 12 t old
  unfolding machine_run
  run_short i = stopped _ _ i

  pub run_unpaired : is_table t ≡ true → paired words old ≡ false → outcome ≡ kept 18 t old
  unfolding machine_run
  run_unpaired i p = past _ _ i ∙ stopped _ _ p

  pub odd_words : (length words % 4 ≡ 0 → ⊥) → paired words old ≡ false
  unfolding paired
  odd_words n = false_and _ (ne_eqb (length words % 4) 0 n)

  pub other_replies : (length old ≡ 2 * (length words / 4) → ⊥) → paired words old ≡ false
  unfolding paired
  other_replies n = and_false _ (ne_eqb (length old) (2 * (length words / 4)) n)

  pub is_paired : length words % 4 ≡ 0 → length old ≡ 2 * (length words / 4) → paired words old ≡ true
  unfolding paired
  is_paired e d = and_intro (eq-eqb (length words % 4) 0 e) (eq-eqb (length old) (2 * (length words / 4)) d)

  -- a set-up that is refused leaves the table
  pub run_refused : is_table t ≡ true → paired words old ≡ true → ((label_set_up t clearances labels).answer ≡ 1 → ⊥)
      → outcome ≡ kept (label_set_up t clearances labels).answer (label_set_up t clearances labels).state old
  unfolding machine_run
  run_refused i p n =
      past _ _ i ∙ past _ _ p ∙ stopped _ _ (ne_eqb _ 1 n)
      ∙ ap (λ (l : List ℕ). kept (label_set_up t clearances labels).answer l old) (sym (set_up_refused t clearances labels n))

  -- after an accepted one the label guard answers as the machine does
  pub run_accepted : is_table t ≡ true → paired words old ≡ true → (label_set_up t clearances labels).answer ≡ 1
      → outcome
      ≡ kept 1 (final image_step (label_set_up t clearances labels).state (asks words))
      (flat (trace image_step (label_set_up t clearances labels).state (asks words)))
  unfolding machine_run
  run_accepted i p a =
      let g = begin_good t clearances labels a in
      let m = begin clearances labels in
      let z = begin_table t clearances labels a in
      past _ _ i ∙ past _ _ p ∙ past _ _ (eq-eqb _ 1 a)
      ∙ ap₂ (kept 1)
      (sym (ap (λ (l : List ℕ). final image_step l (asks words)) z ∙ final_agrees image_step one_step_served (asks words) m g))
      (sym (ap (λ (l : List ℕ). flat (trace image_step l (asks words))) z ∙ ap flat (trace_agrees image_step one_step_served (asks words) m g)))
