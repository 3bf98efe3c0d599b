-- `request` meets its contract: the refusals in their order, then the request on a sound image. Assumes nothing.
use mathlib.Core.Path.{refl, sym}
use Rattle.bits.proofs.Truth.{confirmed, refuted}
use Rattle.table.proofs.Table.{is_table_lem, not_table}
use Rattle.sound.proofs.Answers.{sound_state, unsound_state}
use Rattle.requests.specs.Request.{ask}
use Rattle.image.proofs.Reading.{shows_image_lem, shows_none}
use Rattle.labels.proofs.Refusing.{label_step_short, label_step_unsound, label_step_none}
use Rattle.labels.proofs.Replying.{clauses_as, refused_clauses}
use Rattle.labels.proofs.Claims.{served_same}
use Rattle.labels.proofs.request.Goals as goal

pub returns-then-t-ne-WORDS : goal.returns-then-t-ne-WORDS
returns-then-t-ne-WORDS c =
    let a = c.args in
    refused_clauses 12 (label_step_short a.t.now (ask a.code a.a a.b a.c) (not_table _ c.if-t-ne-WORDS.true))
    c.refused.ensures.answer c.refused.ensures.spent refl

pub returns-then-not-is_sound : goal.returns-then-not-is_sound
returns-then-not-is_sound c =
    let a = c.args in
    let e = c.if-t-ne-WORDS.false in
    refused_clauses 13
    (label_step_unsound a.t.now (ask a.code a.a a.b a.c) (is_table_lem _ e) (unsound_state _ e (refuted c.is_sound.ensures c.if-not-is_sound.true-raw)))
    c.refused-then-not-is_sound.ensures.answer c.refused-then-not-is_sound.ensures.spent refl

pub returns-then-not-is_image : goal.returns-then-not-is_image
returns-then-not-is_image c =
    let a = c.args in
    let e = c.if-t-ne-WORDS.false in
    refused_clauses 14
    (label_step_none a.t.now (ask a.code a.a a.b a.c) (is_table_lem _ e)
    (sound_state _ (confirmed c.is_sound.ensures c.if-not-is_sound.false-raw))
    (shows_none _ e (refuted c.is_image.ensures c.if-not-is_image.true-raw)))
    c.refused-then-not-is_image.ensures.answer c.refused-then-not-is_image.ensures.spent refl

pub returns : goal.returns
returns c =
    let a = c.args in
    clauses_as
    (sym (served_same a.t.now (ask a.code a.a a.b a.c) (confirmed c.is_sound.ensures c.if-not-is_sound.false-raw)
    (shows_image_lem _ (confirmed c.is_image.ensures c.if-not-is_image.false-raw))))
    c.serve.ensures
