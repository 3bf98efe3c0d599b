-- `seat_roles` meets its contract. Assumes nothing.
use Prim.Native.Nat.{ℕ, ◌+◌}
use mathlib.Core.Path.{sym, ap, ap₂, ◌∙◌}
use Rattle.bits.specs.Words.{◌with◌}
use Rattle.image.proofs.Reading.{idle_roles, busy_roles}
use Rattle.image.proofs.seat_roles.Goals as goal

pub returns-then-owner-eq0 : goal.returns-then-owner-eq0
returns-then-owner-eq0 c = sym (idle_roles _ _ c.if-owner-eq0.true)

pub returns : goal.returns
returns c =
    let y = c.label_of-y.ensures.is in
    c.with-2.ensures
    ∙ ap₂ (λ (w l : ℕ). w with (32 + l)) (c.with.ensures ∙ ap (λ (l : ℕ). 0 with l) y) y
    ∙ sym (busy_roles _ _ c.if-owner-eq0.false)
