-- `sheetguard_compare_labels` meets its contract: refusal 16, then how the labels stand. Assumes nothing.
use mathlib.Core.Path.{sym, ap, ◌∙◌}
use Rattle.bits.proofs.Truth.{confirmed, refuted, past, stopped}
use Rattle.machine.specs.Number.{standing_number}
use Rattle.sheetguard.specs.Comparing.{compare_labels}
use Rattle.sheetguard.proofs.sheetguard_compare_labels.Goals as goal

pub returns-then-not-are_labels : goal.returns-then-not-are_labels
unfolding compare_labels
returns-then-not-are_labels c = c.number.ensures ∙ sym (stopped _ _ (refuted c.are_labels.ensures c.if-not-are_labels.true-raw))

pub returns : goal.returns
unfolding compare_labels
returns c =
    c.number-2.ensures
    ∙ ap standing_number c.compare.ensures
    ∙ sym (past _ _ (confirmed c.are_labels.ensures c.if-not-are_labels.false-raw))
