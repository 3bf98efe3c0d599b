-- `in_range` meets its contract. Assumes nothing.
use Rattle.std.proofs.Common.{◌≤◌, arith}
use Rattle.std.proofs.lemmas.Bool.Decides.{nat_tests}
use Rattle.std.proofs.lemmas.Grind.{common_steps}
use mathlib.Core.Path.{refl, sym, ◌∙◌}
use Rattle.bits.proofs.Truth.{is_false, false_and, true_and}
use Rattle.requests.proofs.Arguments.{within_row}
use Rattle.rbac.specs.Roles.{limits, in_range}
use Rattle.rbac.proofs.Codes.{is_code_lem, is_code_elim}
use Rattle.rbac.proofs.in_range.Goals as goal

pub returns-then-contains : goal.returns-then-contains
unfolding in_range limits
returns-then-contains c =
    let a = c.args in
    let l : 1 ≤ a.code = grind (arith, common_steps, nat_tests) in
    let h : a.code ≤ 14 = grind (arith, common_steps, nat_tests) in
    within_row a.code a.a a.b a.c c.within.ensures refl ∙ sym (true_and _ (is_code_lem _ l h))

pub returns-else-contains : goal.returns-else-contains
returns-else-contains c =
    c.if-contains.false ∙ sym (false_and _ (is_false (λ e. let k = is_code_elim _ e in grind (arith, common_steps, nat_tests))))
