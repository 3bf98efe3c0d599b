-- The goals that are left.
use mathlib.Core.Path.{◌≡◌, ap, ◌∙◌}
use native.Mathlib.Omega.{arith}
use Rattle.table.proofs.Table.{is_table_lem, not_table}
use Rattle.masks.specs.Gathered.{gathered, masks_below}
use Rattle.masks.proofs.Gathering.{gathered_none}
use Rattle.masks.proofs.Masks.{masks_start, all_masks_none, all_masks_are}
use Rattle.masks.proofs.all_masks.Goals as goal

pub returns-in_default : goal.returns-in_default
returns-in_default c = all_masks_none _ (not_table _ c.in_default.ensures.cases)

pub loop-x-init : goal.loop-x-init
loop-x-init c = gathered_none _

pub loop-x-preserved : goal.loop-x-preserved
loop-x-preserved c = c.gather.ensures

pub loop-s-init : goal.loop-s-init
loop-s-init c =
    let l = c.loop-x in
    let n : l.x ≡ 8 = let b = c.loop-x-test.false in omega arith in
    record { rows = l.invariant ∙ ap (gathered _) n; written = masks_start _ }

pub loop-s-preserved : goal.loop-s-preserved
loop-s-preserved c = record { rows = c.loop-s.invariant.rows; written = c.write_session.ensures }

pub returns : goal.returns
returns c =
    let l = c.loop-s in
    let table = c.in-Some.ensures.cases in
    let n : l.s ≡ 32 = let b = c.loop-s-test.false in omega arith in
    let e = rw table.same at (l.invariant.written ∙ ap (masks_below _) n) in
    all_masks_are _ (is_table_lem _ table.long) e
