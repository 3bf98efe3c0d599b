-- `opening` meets its contract: the refusals of a length and an argument, then the test of `open`. Assumes nothing.
use mathlib.Core.Path.{◌≡◌, refl, sym, ◌∙◌}
use native.Mathlib.Omega.{arith}
use Rattle.std.proofs.lemmas.Grind.{common_steps}
use Rattle.table.proofs.Table.{not_table}
use Rattle.requests.specs.Answer.{number_of}
use Rattle.requests.proofs.Outcome.{comes_to, refused}
use Rattle.rbac.specs.Roles.{known}
use Rattle.rbac.proofs.Codes.{open_code}
use Rattle.rbac.proofs.Guarding.{sound_step_short, is_there, comes, argument_refused}
use Rattle.sessions.proofs.opening.Goals as goal

pub returns-in_err-table : goal.returns-in_err-table
returns-in_err-table c =
    let n : number_of c.from_residual.result ≡ 12 = grind (arith, common_steps) in
    n ∙ (comes_to (sound_step_short c.args.t.now _ (not_table _ (grind (arith, common_steps)))) refused).answer

pub returns-then-not-in_range : goal.returns-then-not-in_range
returns-then-not-in_range c =
    let k = rw c.in_ok-table.ensures.ok_part at c.as_array.ensures.cases in
    (comes_to (argument_refused c.args.t.now _ k.long (omega arith) (omega arith) (sym c.in_range.ensures ∙ c.if-not-in_range.true)) refused).answer

pub may_open-requires : goal.may_open-requires
may_open-requires c = let a = c.args in is_there _ (open_code a.s a.o a.x refl) (sym c.in_range.ensures ∙ c.if-not-in_range.false)

pub returns : goal.returns
unfolding known
returns c =
    let k = rw c.in_ok-table.ensures.ok_part at c.as_array.ensures.cases in
    let a = c.args in
    (comes _ _ k.long (sym c.in_range.ensures ∙ c.if-not-in_range.false) (open_code _ _ _ refl) refl
    (record { answer = rw k.same at c.may_open.ensures; table = refl })).answer
