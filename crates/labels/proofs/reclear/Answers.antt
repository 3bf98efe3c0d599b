-- `reclear` meets its contract: no role request, two, or three. Assumes nothing.
use mathlib.Core.Path.{refl}
use Rattle.labels.proofs.Making.{same_clearance, not_recleared, is_recleared}
use Rattle.labels.proofs.Replying.{reply}
use Rattle.labels.proofs.reclear.Goals as goal

pub returns-then-old-c : goal.returns-then-old-c
returns-then-old-c c =
    let a = c.args in
    reply 1 0 _ (same_clearance a.t.now a.u a.c _ c.label_of-old.ensures.is c.if-old-c.true) refl refl refl

pub returns-then-not-is_yes : goal.returns-then-not-is_yes
returns-then-not-is_yes c =
    let a = c.args in
    reply 0 3 _
    (not_recleared a.t.now a.u a.c _ c.label_of-old.ensures.is c.if-old-c.false c.is_yes.ensures.table
    c.is_yes-2.ensures.answer c.is_yes-2.ensures.table c.if-not-is_yes.true-raw c.is_yes-then-not-is_yes.ensures.table)
    refl refl refl

pub returns : goal.returns
returns c =
    let a = c.args in
    reply 1 2 _
    (is_recleared a.t.now a.u a.c _ c.label_of-old.ensures.is c.if-old-c.false c.is_yes.ensures.table
    c.is_yes-2.ensures.answer c.is_yes-2.ensures.table c.if-not-is_yes.false-raw)
    refl refl refl
