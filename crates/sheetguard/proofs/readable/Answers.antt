-- `readable` meets its contract: the refusals in their order. Assumes nothing.
use mathlib.Core.Path.{sym, ap, ◌∙◌}
use borrow.Author.Tests.{not-true, not-false}
use Rattle.bits.proofs.Truth.{confirmed, refuted}
use Rattle.table.proofs.Table.{is_table_lem, not_table}
use Rattle.sound.proofs.Answers.{sound_state, unsound_state}
use Rattle.sheetguard.specs.Reading.{readable}
use Rattle.sheetguard.proofs.Telling.{readable_short, readable_unsound, readable_unknown, readable_known}
use Rattle.sheetguard.proofs.readable.Goals as goal

pub returns-then-table-ne-WORDS : goal.returns-then-table-ne-WORDS
returns-then-table-ne-WORDS c = sym (readable_short _ _ (not_table _ c.if-table-ne-WORDS.true))

pub returns-then-not-is_sound : goal.returns-then-not-is_sound
returns-then-not-is_sound c =
    let e = c.if-table-ne-WORDS.false in
    sym (readable_unsound _ _ (is_table_lem _ e) (unsound_state _ e (refuted c.is_sound.ensures c.if-not-is_sound.true-raw)))

pub returns-then-not-known : goal.returns-then-not-known
returns-then-not-known c =
    sym (ap (readable _) (not-true _ c.if-not-known.true-raw)
    ∙ readable_unknown _ (is_table_lem _ c.if-table-ne-WORDS.false) (sound_state _ (confirmed c.is_sound.ensures c.if-not-is_sound.false-raw)))

pub returns : goal.returns
returns c =
    sym (ap (readable _) (not-false _ c.if-not-known.false-raw)
    ∙ readable_known _ (is_table_lem _ c.if-table-ne-WORDS.false) (sound_state _ (confirmed c.is_sound.ensures c.if-not-is_sound.false-raw)))
