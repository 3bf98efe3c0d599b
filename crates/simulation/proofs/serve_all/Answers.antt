-- The goals that are left.
use Prim.Native.Nat.{ℕ}
use mathlib.Core.Path.{ap, ◌∙◌}
use mathlib.Core.List.{List}
use Rattle.requests.specs.Request.{Outcome}
use Rattle.labels.specs.Guard.{image_step}
use Rattle.simulation.proofs.Listing.{second_place, serve_start, serve_step, served_table, served_replies, serve_here}
use Rattle.simulation.proofs.serve_all.Goals as goal

pub bounds-replies-i-in-loop-i : goal.bounds-replies-i-in-loop-i
bounds-replies-i-in-loop-i c = second_place image_step _ _ c.loop-i.invariant _ c.loop-i-test.true

pub loop-i-preserved : goal.loop-i-preserved
loop-i-preserved c =
    let served = c.serve_at-r in
    let l = c.loop-i in
    let a = c.args in
    let h = c.loop-i-test.true in
    let e = serve_here l.t a.words.now l.i h in
    serve_step image_step a.words.now a.t.now l.invariant h served.auto.t
    (c.number.ensures ∙ served.ensures.answer ∙ ap (λ (o : Outcome (List ℕ)). o.answer) e)
    (served.ensures.spent ∙ ap (λ (o : Outcome (List ℕ)). o.spent) e)
    (served.ensures.table ∙ ap (λ (o : Outcome (List ℕ)). o.state) e)

pub loop-i-init : goal.loop-i-init
loop-i-init c = serve_start image_step _ _ c.requires

pub returns : goal.returns
returns c = record {
  table = served_table image_step _ _ c.loop-i.invariant c.loop-i-test.false;
  replies = served_replies image_step _ _ c.loop-i.invariant c.loop-i-test.false;
}
