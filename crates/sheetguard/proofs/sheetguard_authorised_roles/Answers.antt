-- `sheetguard_authorised_roles` meets its contract: the refusals in their order, then the words. Assumes nothing.
use Prim.Native.Nat.{ℕ}
use mathlib.Core.Path.{sym, ap, ◌∙◌}
use mathlib.Core.List.{[], ◌∷◌}
use borrow.Author.Tests.{eqb-true}
use Rattle.bits.proofs.Truth.{and_right}
use Rattle.sheetguard.specs.Reading.{readable, read_roles}
use Rattle.sheetguard.proofs.Telling.{readable_elim, read_refused, read_given, overlay_whole}
use Rattle.sheetguard.proofs.sheetguard_authorised_roles.Goals as goal

pub returns-then-n-ne1 : goal.returns-then-n-ne1
unfolding read_roles
returns-then-n-ne1 c = read_refused _ _ _ _ (c.number-n.ensures ∙ c.readable.ensures ∙ ap (readable _) c.is_known.ensures) c.if-n-ne1.true

pub returns : goal.returns
unfolding read_roles
returns c =
    let e = c.number-n.ensures ∙ c.readable.ensures ∙ ap (readable _) c.is_known.ensures in
    let long = eqb-true _ _ (and_right _ _ (readable_elim _ _ (sym e ∙ c.if-n-ne1.false)).2) in
    read_given _ _ _ _ e c.if-n-ne1.false (c.overlay.ensures ∙ overlay_whole _ _ long ∙ ap (λ (w : ℕ). w ∷ []) c.authorised_roles.ensures)
