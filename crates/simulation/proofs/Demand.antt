-- Demand 3: by induction over the list of requests. Assumes nothing.
use Prim.Native.Nat.{ℕ}
use mathlib.Core.Path.{◌≡◌, sym, ap, subst}
use mathlib.Core.Bool.{true}
use mathlib.Core.List.{List}
use lib.ListN.{get_or}
use Rattle.requests.specs.Request.{Ask, Outcome}
use Rattle.machine.proofs.Order.{dominates}
use Rattle.machine.specs.Machine.{Machine, step, begin}
use Rattle.machine.specs.Wall.{Event, trace, final, Carried}
use Rattle.machine.proofs.Tracing.{trace_same, final_same}
use Rattle.machine.proofs.Wall.{walled}
use Rattle.image.specs.Image.{image}
use Rattle.image.specs.SetUp.{label_set_up}
use Rattle.image.proofs.Beginning.{passed, accepted, begin_ranged, begin_safe}
use Rattle.labels.specs.Guard.{label_step}
use Rattle.simulation.specs.Demand.{Simulates, Demand3}
use Rattle.simulation.proofs.Deciding.{pictured}
use Rattle.simulation.proofs.Simulation.{Good, one_step, next_good}

-- ---- from any good state on, with either of the two label guards

module _ (guard : List ℕ → Ask → Outcome (List ℕ)) (same : (m : Machine) → Good m → (q : Ask) → guard (image m) q ≡ pictured (step m q)) where
  pub trace_agrees : (qs : List Ask) (m : Machine) → Good m → trace guard (image m) qs ≡ trace step m qs
  trace_agrees = trace_same guard step image Good next_good same

  pub final_agrees : (qs : List Ask) (m : Machine) → Good m → final guard (image m) qs ≡ image (final step m qs)
  final_agrees = final_same guard step image Good next_good same

-- ---- after an accepted set-up

module _ (t clearances labels : List ℕ) (a : (label_set_up t clearances labels).answer ≡ 1) where
  pub begin_good : Good (begin clearances labels)
  begin_good =
      let p = passed t clearances labels a in
      record { ranged = begin_ranged clearances labels p.clearances_known p.labels_known; safe = begin_safe clearances labels }

  pub begin_table : (label_set_up t clearances labels).state ≡ image (begin clearances labels)
  begin_table = ap (λ (o : Outcome (List ℕ)). o.state) (accepted t clearances labels (passed t clearances labels a))

-- the wall, for the labels of the set-up
wall : (clearances labels : List ℕ) (qs : List Ask) (c d : ℕ) → Carried (trace step (begin clearances labels) qs) c d
    → dominates (get_or labels d 0) (get_or labels c 0) ≡ true
unfolding begin
wall clearances labels qs c d k = walled (begin clearances labels) qs c d k

pub demand_3 : Demand3
demand_3 t clearances labels a qs =
    let g = begin_good t clearances labels a in
    let m = begin clearances labels in
    subst (λ (l : List ℕ). Simulates l clearances labels qs) (sym (begin_table t clearances labels a)) (record {
      same_trace = trace_agrees label_step one_step qs m g;
      same_state = final_agrees label_step one_step qs m g;
      walled = λ c d k. wall clearances labels qs c d (subst (λ (es : List Event). Carried es c d) (trace_agrees label_step one_step qs m g) k);
    })
