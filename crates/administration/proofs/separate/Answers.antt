-- `separate` meets its contract. Assumes nothing.
use Prim.Native.Nat.{◌*◌, ◌+◌}
use mathlib.Core.Path.{refl, sym, ◌∙◌}
use native.Mathlib.Omega.{arith}
use Rattle.table.specs.Reading.{state}
use Rattle.table.proofs.Encode.{encode_state, write_sets}
use Rattle.separation.proofs.Sets.{pair_holds_are}
use Rattle.rbac.proofs.Serving.{serve_yes, serve_no}
use Rattle.administration.proofs.separate.Goals as goal

pub returns-then-not-pair_holds : goal.returns-then-not-pair_holds
returns-then-not-pair_holds c =
    serve_no (pair_holds_are _ c.told-t _ _ _ c.requires.0 ∙ sym c.pair_holds.ensures ∙ c.if-not-pair_holds.true) refl

pub returns : goal.returns
returns c =
    let a = c.args in
    let h = c.requires.0 in
    serve_yes (pair_holds_are _ c.told-t _ _ _ h ∙ sym c.pair_holds.ensures ∙ c.if-not-pair_holds.false)
    (write_sets _ (write_sets (state a.t.now) (encode_state a.t.now c.told-t) (2 * a.n) a.roles (omega arith)) (2 * a.n + 1) a.bound (omega arith))
