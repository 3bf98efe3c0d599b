-- `phase_after` meets its contract. Assumes nothing.
use mathlib.Core.Path.{sym, refl}
use native.Mathlib.Omega.{arith}
use borrow.Author.Tests.{ne_eqb, eq-eqb}
use Rattle.bits.proofs.Truth.{if_true, if_false}
use Rattle.ledger.proofs.Spending.{refused_not_1}
use Rattle.ledger.specs.Step.{phase_after}
use Rattle.ledger.proofs.phase_after.Goals as goal

pub returns-in-Ok-true : goal.returns-in-Ok-true
unfolding phase_after
returns-in-Ok-true c = rw (c.in-Ok-true.is, c.in-Ok-true.field-0-test) (sym (if_true _ _ (eq-eqb 1 1 refl)))

pub returns-in-Ok-false : goal.returns-in-Ok-false
unfolding phase_after
returns-in-Ok-false c = rw (c.in-Ok-false.is, c.in-Ok-false.field-0-test) (sym (if_false _ _ (ne_eqb 0 1 (λ e. omega arith))))

pub returns-in-Err : goal.returns-in-Err
unfolding phase_after
returns-in-Err c = rw c.in-Err.is (sym (if_false _ _ (ne_eqb _ _ (refused_not_1 _))))
