-- `roles_fit` meets its contract. Assumes nothing.
use Prim.Native.Nat.{ℕ}
use mathlib.Core.Path.{sym, ap, ◌∙◌}
use native.Mathlib.Omega.{arith}
use Rattle.bits.specs.Words.{subset}
use Rattle.table.specs.Authority.{user}
use Rattle.table.specs.Reading.{state}
use Rattle.table.proofs.Table.{in_table}
use Rattle.table.proofs.Answers.{authorised_roles_are}
use Rattle.sound.proofs.Items.{roles_past, roles_idle, roles_busy}
use Rattle.sound.proofs.roles_fit.Goals as goal

pub returns-in-0 : goal.returns-in-0
returns-in-0 c = roles_idle _ _ c.in-0.is (c.fits-t _)

pub returns-in-1-to-64 : goal.returns-in-1-to-64
returns-in-1-to-64 c =
    let t = c.args.t.now in
    let S = state t in
    let u = user S c.args.s in
    c.subset.ensures
    ∙ ap (λ (w : ℕ). subset (S.active c.args.s) w) (c.authorised_roles.ensures ∙ sym (authorised_roles_are t u (in_table t u 64 c.told-t (omega arith))))
    ∙ roles_busy S c.args.s (omega arith) (λ e. absurd (omega arith))

pub returns-in_default : goal.returns-in_default
returns-in_default c = roles_past _ _ (omega arith)
