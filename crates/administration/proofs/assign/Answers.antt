-- `assign` meets its contract. Assumes nothing.
use Prim.Native.Nat.{ℕ}
use mathlib.Core.Path.{refl, ap, ◌∙◌}
use lib.ListN.{set}
use Rattle.table.specs.Reading.{assigned_at, state}
use Rattle.table.proofs.Encode.{encode_state, write_assigned}
use Rattle.separation.proofs.Sets.{static_told}
use Rattle.rbac.proofs.Serving.{serve_yes, serve_no}
use Rattle.administration.proofs.assign.Goals as goal

pub returns-then-not-static_fit : goal.returns-then-not-static_fit
returns-then-not-static_fit c = serve_no (static_told c.args.t.now c.told-t _ c.with-more.ensures c.static_fit.ensures ∙ c.if-not-static_fit.true) refl

pub returns : goal.returns
returns c =
    let a = c.args in
    serve_yes (static_told a.t.now c.told-t _ c.with-more.ensures c.static_fit.ensures ∙ c.if-not-static_fit.false)
    (ap (λ (w : ℕ). set a.t.now (assigned_at a.u) w) c.with-more.ensures ∙ write_assigned (state a.t.now) (encode_state a.t.now c.told-t) a.u _ c.requires.0)
