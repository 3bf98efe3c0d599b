-- `open` meets its contract. Assumes nothing.
use Prim.Native.Nat.{ℕ}
use mathlib.Core.Path.{refl, sym, ap, ◌∙◌}
use lib.ListN.{set}
use Rattle.table.specs.Reading.{holds_at, state}
use Rattle.table.proofs.Encode.{encode_state, write_holds}
use Rattle.rbac.proofs.Serving.{serve_yes, serve_no}
use Rattle.sessions.proofs.open.Goals as goal

pub returns-then-not-may_open : goal.returns-then-not-may_open
returns-then-not-may_open c = serve_no (sym c.may_open.ensures ∙ c.if-not-may_open.true) refl

pub returns : goal.returns
returns c =
    let a = c.args in
    let h = c.requires in
    serve_yes (sym c.may_open.ensures ∙ c.if-not-may_open.false)
    (ap (λ (w : ℕ). set a.t.now (holds_at a.s a.x) w) c.with.ensures ∙ write_holds (state a.t.now) (encode_state a.t.now c.told-t) a.s a.x _ h.0 h.2)
