-- `serve` meets its contract: the refusals in their order, then the request. Assumes nothing.
use Prim.Native.Nat.{ℕ, ◌≤◌}
use mathlib.Core.Path.{◌≡◌, refl, sym, ap, ◌∙◌}
use mathlib.Core.List.{List}
use native.Mathlib.Omega.{arith}
use Rattle.bits.proofs.Truth.{is_false}
use Rattle.table.proofs.Table.{is_table_lem, not_table}
use Rattle.requests.specs.Request.{ask}
use Rattle.requests.proofs.Arguments.{within_row}
use Rattle.rbac.specs.Guard.{sound_step}
use Rattle.machine.specs.Machine.{limits, in_range, decode}
use Rattle.machine.proofs.Steps.{code_elim}
use Rattle.labels.specs.Guard.{plan, carry_out}
use Rattle.labels.proofs.Refusing.{is_code_lem, translated_code, translated_argument, image_step_short, image_step_table, image_step_plan}
use Rattle.labels.proofs.Replying.{clauses, replied_as, refused_clauses}
use Rattle.labels.proofs.serve.Goals as goal
use Rattle.labels.proofs.serve.Goals.{then-code-lt1-via-then-code-lt1, then-code-lt1-via-else-code-lt1+then-code-gt5}

pub returns-in_default : goal.returns-in_default
returns-in_default c =
    let a = c.args in
    refused_clauses 12 (image_step_short a.t.now (ask a.code a.a a.b a.c) (not_table _ c.in_default.ensures.cases))
    c.refused.ensures.answer c.refused.ensures.spent refl

pub returns-then-code-lt1 : goal.returns-then-code-lt1
returns-then-code-lt1 c =
    let a = c.args in
    let q = ask a.code a.a a.b a.c in
    let whole = c.in-Some.ensures.cases in
    let left : c.then-code-lt1.t ≡ c.in-Some.table.now = elim c.then-code-lt1.branch [
      | then-code-lt1-via-then-code-lt1 w ↦ w.t-is
      | then-code-lt1-via-else-code-lt1+then-code-gt5 w ↦ w.t-is
    ] in
    refused_clauses 15
    (image_step_table a.t.now q (is_table_lem _ whole.long) ∙ translated_code sound_step a.t.now q (is_false (λ e. let k = code_elim q e in omega arith)))
    c.refused-then-code-lt1.ensures.answer c.refused-then-code-lt1.ensures.spent (left ∙ whole.same)

pub returns-then-not-within : goal.returns-then-not-within
unfolding in_range limits
returns-then-not-within c =
    let a = c.args in
    let q = ask a.code a.a a.b a.c in
    let whole = c.in-Some.ensures.cases in
    let least : 1 ≤ a.code = omega arith in
    let most : a.code ≤ 5 = omega arith in
    refused_clauses 16
    (image_step_table a.t.now q (is_table_lem _ whole.long)
    ∙ translated_argument sound_step a.t.now q (is_code_lem q least most) (sym (within_row a.code a.a a.b a.c c.within.ensures refl) ∙ c.if-not-within.true))
    c.refused-then-not-within.ensures.answer c.refused-then-not-within.ensures.spent whole.same

pub perform-requires : goal.perform-requires
unfolding in_range limits
perform-requires c =
    let a = c.args in
    let least : 1 ≤ a.code = omega arith in
    let most : a.code ≤ 5 = omega arith in
    (least, most, sym (within_row a.code a.a a.b a.c c.within.ensures refl) ∙ c.if-not-within.false)

pub returns : goal.returns
unfolding in_range limits
returns c =
    let a = c.args in
    let whole = c.in-Some.ensures.cases in
    let least : 1 ≤ a.code = omega arith in
    let most : a.code ≤ 5 = omega arith in
    let ranged = sym (within_row a.code a.a a.b a.c c.within.ensures refl) ∙ c.if-not-within.false in
    clauses (replied_as
    (image_step_plan a.t.now a.code a.a a.b a.c whole.long least most ranged
    ∙ ap (λ (l : List ℕ). carry_out sound_step l (plan sound_step l (decode (ask a.code a.a a.b a.c)))) (sym whole.same))
    c.perform.ensures)
