-- `end` meets its contract. Assumes nothing.
use mathlib.Core.Path.{refl, ap}
use mathlib.Core.Bool.{not}
use native.Mathlib.Omega.{arith}
use borrow.Author.Tests.{eq-eqb, ne_eqb}
use Rattle.bits.proofs.Truth.{not_intro}
use Rattle.table.specs.Reading.{state}
use Rattle.table.proofs.Encode.{encode_state, write_active, write_owner}
use Rattle.rbac.proofs.Serving.{serve_yes, serve_no}
use Rattle.rbac.proofs.Masks.{ended_is}
use Rattle.sessions.proofs.end.Goals as goal

pub returns-then-t-s-eq0 : goal.returns-then-t-s-eq0
returns-then-t-s-eq0 c = serve_no (ap not (eq-eqb _ 0 c.if-t-s-eq0.true)) refl

pub returns : goal.returns
returns c =
    let a = c.args in
    let h = c.requires in
    serve_yes (not_intro (ne_eqb _ 0 c.if-t-s-eq0.false))
    (ended_is _ a.s h (write_active _ (write_owner (state a.t.now) (encode_state a.t.now c.told-t) a.s 0 h) a.s 0 h) (omega arith) (omega arith)
    (c.fill.ensures.after (λ y e. e)) (c.fill-2.ensures.after (λ y e. e)))
