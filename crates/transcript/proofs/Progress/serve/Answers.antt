-- The goals that are left.
use mathlib.Core.Path.{refl, sym, ◌∙◌}
use borrow.Author.Rules.{rules}
use native.Mathlib.Omega.{arith}
use Rattle.bits.proofs.Truth.{confirmed, refuted}
use Rattle.transcript.proofs.Serving.{number_left}
use Rattle.transcript.proofs.Far.{far_full, far_end, far_used, far_next, far_row}
use Rattle.transcript.proofs.Progress.serve.Goals.{then-loop-read-test+else-not-is_full, else-loop-read-test, then-loop-read-test+then-not-is_full+then-not-fed}
use Rattle.transcript.proofs.Progress.serve.Goals as goal

pub count_up-requires : goal.count_up-requires
count_up-requires c = number_left _ _ (sym c.is_full.ensures ∙ c.if-not-is_full.true)

pub loop-read-smaller : goal.loop-read-smaller
loop-read-smaller c =
    let here = c.loop-read in
    let next = far_next c.args.block.now here.read here.invariant.far (sym c.is_full.ensures ∙ c.if-not-is_full.true) c.feed-fed.ensures (confirmed refl c.if-not-fed.false) in
    omega (arith, next.0, c.loop-read-test.true)

pub loop-read-preserved : goal.loop-read-preserved
loop-read-preserved c =
    let here = c.loop-read in
    record {
      lists = search rules;
      far = rw c.count_up.ensures (
          far_row c.args.block.now here.read here.invariant.far (sym c.is_full.ensures ∙ c.if-not-is_full.true) c.feed-fed.ensures (confirmed refl c.if-not-fed.false)
          c.finish.ensures c.act-reply.ensures.step c.new-self.ensures c.put_row-written.ensures c.put_row-written.auto.out
          );
    }

pub returns-clause-served : goal.returns-clause-served
returns-clause-served c =
    let block = c.args.block.now in
    let here = c.loop-read in
    elim c.loop-read-test.branch [
      | else-loop-read-test w ↦ rw (w.self-is, w.read-is) (far_end block here.read here.invariant.far w.loop-read-test.false)
      | then-loop-read-test+else-not-is_full w ↦
          rw (w.self-is, w.read-is) (far_full block here.read here.invariant.far (sym w.is_full.ensures ∙ w.if-not-is_full.false))
      | then-loop-read-test+then-not-is_full+then-not-fed w ↦
          rw (w.self-is, w.read-is)
          (far_used block here.read here.invariant.far (sym w.is_full.ensures ∙ w.if-not-is_full.true) w.feed-fed.ensures (refuted refl w.if-not-fed.true))
    ]
