-- The goals that are left.
use Prim.Native.Nat.{ℕ, ◌<◌}
use mathlib.Core.Path.{refl, sym, ap, ◌∙◌}
use native.Mathlib.Omega.{arith}
use lib.ListN.{length, get_or}
use Rattle.bits.specs.Words.{when◌then◌else◌, has, tabulate}
use Rattle.bits.specs.Sets.{join}
use Rattle.bits.proofs.Tabulate.{write_start, write_step, write_end}
use Rattle.closure.specs.Closure.{via}
use Rattle.closure.proofs.Closure.{passed, via_none}
use Rattle.closure.proofs.pass_through.Goals as goal

pub returns-then-without-eq0 : goal.returns-then-without-eq0
returns-then-without-eq0 c = via_none c.args.k c.args.rows.now c.told-rows c.fits-rows (sym c.without.ensures ∙ c.if-without-eq0.true)

pub loop-row-preserved : goal.loop-row-preserved
loop-row-preserved c =
    let l = c.loop-row in
    let a = c.args in
    let m = l.invariant.0.long in
    let p = c.told-rows in
    let h : l.row-index < length l.rows = omega arith in (
      write_step l.invariant.0 h
          (c.passed_row.ensures
          ∙ ap (λ (w : ℕ). when◌then◌else◌ (has w a.k) (join w (get_or a.rows.now a.k 0)) w) (l.invariant.0.after l.row-index (omega arith))),
      omega arith,
    )

pub returns : goal.returns
unfolding via
returns c =
    let l = c.loop-row in
    let a = c.args in
    let p = c.told-rows in
    let left = c.loop-row-test.false in
    write_end (passed a.rows.now a.k) l.invariant.0 (λ j h. absurd (omega arith)) (λ j h k. refl) (λ j h k. absurd (omega arith))
    ∙ ap (λ (n : ℕ). tabulate n (passed a.rows.now a.k)) p

pub loop-row-init : goal.loop-row-init
loop-row-init c = (write_start, omega arith)
