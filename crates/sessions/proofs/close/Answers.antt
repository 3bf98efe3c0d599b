-- `close` meets its contract. Assumes nothing.
use Prim.Native.Nat.{ℕ}
use mathlib.Core.Path.{refl, ap, ◌∙◌}
use lib.ListN.{set}
use Rattle.table.specs.Reading.{holds_at, state}
use Rattle.table.proofs.Encode.{encode_state, write_holds}
use Rattle.rbac.proofs.Serving.{serve_yes}
use Rattle.sessions.proofs.close.Goals as goal

pub returns : goal.returns
returns c =
    let a = c.args in
    let h = c.requires in
    serve_yes refl
    (ap (λ (w : ℕ). set a.t.now (holds_at a.s a.x) w) c.without.ensures ∙ write_holds (state a.t.now) (encode_state a.t.now c.told-t) a.s a.x _ h.0 h.2)
