-- `serve` meets its contract: the refusals of a code and of a length, then the request. Assumes nothing.
use mathlib.Core.Path.{◌≡◌, ◌∙◌}
use native.Mathlib.Omega.{arith}
use Rattle.std.proofs.lemmas.Grind.{common_steps}
use Rattle.table.proofs.Table.{not_table}
use Rattle.requests.specs.Answer.{number_of}
use Rattle.requests.proofs.Outcome.{comes_to, refused, both, both_to}
use Rattle.rbac.proofs.Guarding.{sound_step_short}
use Rattle.sessions.proofs.Sessions.{session_step_lem, session_other}
use Rattle.sessions.proofs.serve.Goals as goal

pub returns-in_err-ok_or-in-1-to-6 : goal.returns-in_err-ok_or-in-1-to-6
returns-in_err-ok_or-in-1-to-6 c =
    let n : number_of c.from_residual.result ≡ 12 = grind (arith, common_steps) in
    let t = c.args.t.now in
    rw n (both (comes_to (session_step_lem t _ (omega arith) (omega arith) ∙ sound_step_short t _ (not_table t (grind (arith, common_steps)))) refused))

pub returns-in_ok-ok_or-in-1-to-6 : goal.returns-in_ok-ok_or-in-1-to-6
returns-in_ok-ok_or-in-1-to-6 c =
    let k = rw c.in_ok-ok_or-in-1-to-6.ensures.ok_part at c.as_mut_array.ensures.cases in
    both_to (session_step_lem _ _ (omega arith) (omega arith)) (rw (← k.same) c.perform.ensures)

pub returns-in_default : goal.returns-in_default
returns-in_default c = both (comes_to (session_other _ _ (λ l h. omega arith)) refused)

pub returns-in_default-2 : goal.returns-in_default-2
returns-in_default-2 c = both (comes_to (session_other _ _ (λ l h. omega arith)) refused)
