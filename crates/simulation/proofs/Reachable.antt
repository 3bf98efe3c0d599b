-- A state is safe exactly when the machine can reach it: the claims of specs/Claims.antt. Assumes nothing.
use Prim.Native.Nat.{ℕ, ◌<◌}
use mathlib.Core.Path.{◌≡◌, sym, ap, ap₂, subst, ◌∙◌}
use mathlib.Core.Bool.{true}
use mathlib.Core.List.{List}
use Rattle.bits.specs.Words.{tabulate}
use Rattle.table.specs.Table.{table_length, is_table}
use Rattle.bits.proofs.Tabulate.{length_tabulate}
use Rattle.table.proofs.Table.{is_table_lem}
use Rattle.sound.specs.Answers.{is_sound}
use Rattle.machine.proofs.Order.{dominates}
use Rattle.machine.specs.Machine.{Machine, Seat, may_open, step, begin}
use Rattle.machine.specs.Wall.{final}
use Rattle.machine.proofs.Tracing.{final_keeps}
use Rattle.image.specs.Claims.{Ranged, Safe}
use Rattle.image.proofs.Claims.{sound_image, image_means}
use Rattle.simulation.specs.Claims.{Same, Reachable, ReachableImage, ReachableMeans}
use Rattle.simulation.proofs.Simulation.{Good, next_good}
use Rattle.simulation.proofs.Demand.{begin_good}
use Rattle.simulation.proofs.Reaching.{safe_reached}

module _ {m n : Machine} where
  same_ranged : Same m n → Ranged n → Ranged m
  same_ranged e g = record {
    clearances = λ u h. subst (λ (c : ℕ). c < 32) (sym (e.clearances u h)) (g.clearances u h);
    labels = λ o h. subst (λ (l : ℕ). l < 32) (sym (e.labels o h)) (g.labels o h);
    seats = λ s u y h z. g.seats s u y h (sym (e.seats s h) ∙ z);
  }

  same_safe : Ranged m → Same m n → Safe n → Safe m
  same_safe g e f = record {
    cleared = λ s u y h z.
        ap (λ (c : ℕ). dominates c y) (e.clearances u (g.seats s u y h z).0) ∙ f.cleared s u y h (sym (e.seats s h) ∙ z);
    openings = λ s o x hs ho hx z.
        ap₂ (λ (k : Seat) (l : ℕ). may_open k l x) (e.seats s hs) (e.labels o ho)
        ∙ f.openings s o x hs ho hx (sym (e.openings s o x hs ho hx) ∙ z);
  }

-- ---- the claims

blank : List ℕ
blank = tabulate table_length (λ i. 0)

is_blank : is_table blank ≡ true
unfolding blank
is_blank = is_table_lem _ (length_tabulate table_length (λ i. 0))

reached_good : {m : Machine} (r : Reachable m) → Good (final step (begin r.clearances r.labels) r.requests)
reached_good r =
    final_keeps step Good next_good r.requests (begin r.clearances r.labels) (begin_good blank r.clearances r.labels (r.accepted blank is_blank))

reached_ranged : {m : Machine} → Reachable m → Ranged m
reached_ranged r = same_ranged r.reached (reached_good r).ranged

pub reachable_image : ReachableImage
reachable_image m g = (
  λ e. safe_reached m g ((sound_image m g).0 e),
  λ r. (sound_image m g).1 (same_safe g r.reached (reached_good r).safe),
)

pub reachable_means : ReachableMeans
reachable_means t w s = (
  λ i.
      let p = (image_means t w s).0 i in
      record {
        machine = p.machine;
        reachable = (reachable_image p.machine p.ranged).0 (sym (ap is_sound p.is_image) ∙ s);
        is_image = p.is_image;
      },
  λ p. (image_means t w s).1 (record { machine = p.machine; ranged = reached_ranged p.reachable; is_image = p.is_image }),
)
