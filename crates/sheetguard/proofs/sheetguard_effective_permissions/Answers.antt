-- `sheetguard_effective_permissions` meets its contract: the refusals in their order, then the words. Assumes nothing.
use mathlib.Core.Path.{sym, ap, ◌∙◌}
use borrow.Author.Tests.{eqb-true, ltb-true}
use Rattle.bits.proofs.Truth.{and_left, and_right}
use Rattle.table.specs.Answers.{overlay}
use Rattle.table.proofs.Table.{table_length_lem}
use Rattle.sheetguard.specs.Reading.{readable, read_permissions}
use Rattle.sheetguard.proofs.Telling.{readable_elim, read_refused, read_given, overlay_whole, kept_effective, eight}
use Rattle.sheetguard.proofs.sheetguard_effective_permissions.Goals as goal

pub returns-then-n-ne1 : goal.returns-then-n-ne1
unfolding read_permissions
returns-then-n-ne1 c = read_refused _ _ _ _ (c.number-n.ensures ∙ c.readable.ensures ∙ ap (readable _) c.is_known.ensures) c.if-n-ne1.true

pub returns : goal.returns
unfolding read_permissions
returns c =
    let e = c.number-n.ensures ∙ c.readable.ensures ∙ ap (readable _) c.is_known.ensures in
    let is = readable_elim _ _ (sym e ∙ c.if-n-ne1.false) in
    let kept = c.kept_masks.ensures ∙ kept_effective _ _ is.0 is.1 (and_left _ _ is.2) in
    read_given _ _ _ _ e c.if-n-ne1.false (c.overlay.ensures ∙ ap (overlay _ 0) kept ∙ overlay_whole _ _ (eqb-true _ _ (and_right _ _ is.2) ∙ sym (eight _ _)))

pub kept_masks-requires : goal.kept_masks-requires
kept_masks-requires c =
    let e = c.number-n.ensures ∙ c.readable.ensures ∙ ap (readable _) c.is_known.ensures in
    let is = readable_elim _ _ (sym e ∙ c.if-n-ne1.false) in
    (table_length_lem _ is.0, ltb-true _ _ (and_left _ _ is.2))
