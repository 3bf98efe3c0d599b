-- `perform` meets its contract: each code is that of its request. Assumes nothing.
use Prim.Native.Nat.{ℕ}
use mathlib.Core.Path.{sym, ap}
use Rattle.requests.specs.Request.{ask}
use Rattle.rbac.specs.Guard.{sound_step}
use Rattle.machine.proofs.Steps.{opening_code, closing_code, starting_code, ending_code, reclearing_code, start_level, reclear_user, fifth}
use Rattle.labels.specs.Guard.{single, plan, carry_out}
use Rattle.labels.proofs.Replying.{replied_as, planned_as}
use Rattle.labels.proofs.perform.Goals as goal

pub level_roles-requires : goal.level_roles-requires
level_roles-requires c =
    let a = c.args in
    let r = c.requires in
    start_level a.code a.a a.b a.c r.0 r.1 r.2 c.in-3.is

pub reclear-requires : goal.reclear-requires
reclear-requires c =
    let a = c.args in
    let r = c.requires in
    let n = c.in_default.in_default-own.rest in
    reclear_user a.code a.a a.b a.c r.0 r.1 r.2 (fifth r.0 r.1 n.0.0.0.1 n.0.0.1 n.0.1 n.1)

pub returns-in-1 : goal.returns-in-1
unfolding plan
returns-in-1 c =
    let a = c.args in
    planned_as a.t.now (opening_code a.a a.b a.c c.in-1.is) c.single.ensures

pub returns-in-2 : goal.returns-in-2
unfolding plan
returns-in-2 c =
    let a = c.args in
    planned_as a.t.now (closing_code a.a a.b a.c c.in-2.is) c.single-in-2.ensures

pub returns-in-3 : goal.returns-in-3
unfolding plan
returns-in-3 c =
    let a = c.args in
    planned_as a.t.now (starting_code a.a a.b a.c c.in-3.is)
    (replied_as (ap (λ (w : ℕ). carry_out sound_step a.t.now (single sound_step a.t.now (ask 3 a.a a.b w))) (sym c.level_roles.ensures))
    c.single-in-3.ensures)

pub returns-in-4 : goal.returns-in-4
unfolding plan
returns-in-4 c =
    let a = c.args in
    planned_as a.t.now (ending_code a.a a.b a.c c.in-4.is) c.single-in-4.ensures

pub returns-in_default : goal.returns-in_default
unfolding plan
returns-in_default c =
    let a = c.args in
    let r = c.requires in
    let n = c.in_default.in_default-own.rest in
    planned_as a.t.now (reclearing_code a.a a.b a.c (fifth r.0 r.1 n.0.0.0.1 n.0.0.1 n.0.1 n.1))
    c.reclear.ensures
