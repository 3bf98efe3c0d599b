-- The goals that are left.
use Prim.Native.Nat.{ℕ, ◌+◌, ◌*◌, ◌≤◌}
use mathlib.Core.Path.{◌≡◌, refl, ap, ◌∙◌}
use mathlib.Core.Bool.{Bool, true, false}
use native.Mathlib.Omega.{arith}
use mir.Val.{bool_byte}
use Rattle.bits.specs.Words.{bit}
use Rattle.bits.proofs.Walk.{stack_start, stack_room, stack_step, stack_end}
use Rattle.table.proofs.meeting.Goals as goal

-- a truth value as a number
of_bool : (b : Bool) → (bool_byte b ≡ bit b) × (bool_byte b ≤ 1)
unfolding bit
of_bool true = (refl, omega arith)
of_bool false = (refl, omega arith)

pub loop-i-init : goal.loop-i-init
loop-i-init c = stack_start

pub overflow_mul-found : goal.overflow_mul-found
overflow_mul-found c = let r = stack_room c.loop-i.invariant c.loop-i-test.true (omega arith) in record { fits = omega arith }

pub overflow_add-found : goal.overflow_add-found
overflow_add-found c =
    let r = stack_room c.loop-i.invariant c.loop-i-test.true (omega arith) in
    let e = of_bool c.overlap.result in
    record { fits = omega arith }

pub loop-i-preserved : goal.loop-i-preserved
loop-i-preserved c =
    let e = of_bool c.overlap.result in
    stack_step c.loop-i.invariant c.loop-i-test.true (ap (λ (n : ℕ). 2 * c.loop-i.found + n) (c.from.ensures ∙ e.0 ∙ ap bit c.overlap.ensures))

pub returns : goal.returns
returns c = stack_end c.loop-i.invariant c.loop-i-test.false
