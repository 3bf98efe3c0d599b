-- `write_session` meets its contract: the session has no active role, or its masks are written. Assumes nothing.
use mathlib.Core.Path.{sym, ◌∙◌}
use native.Mathlib.Omega.{arith}
use Rattle.std.proofs.Common.{rules}
use Rattle.table.specs.Reading.{state}
use Rattle.table.proofs.Table.{is_table_lem}
use Rattle.table.proofs.Answers.{covered_roles_are}
use Rattle.masks.proofs.Joined.{mask_joined}
use Rattle.masks.proofs.Masks.{masks_skip, masks_write}
use Rattle.masks.proofs.write_session.Goals as goal

pub returns-then-active-eq0 : goal.returns-then-active-eq0
returns-then-active-eq0 c = masks_skip _ c.args.s c.requires.1.written c.if-active-eq0.true

pub returns : goal.returns
returns c =
    let t = c.args.t.now in
    let s = c.args.s in
    let roles = c.covered_roles in
    let p = c.requires in
    let words = c.copy_from_slice.ensures.after ∙ c.joined_rows-words.ensures in
    masks_write (state t) _ s p.0 p.1.written (omega arith) (search rules)
    (λ x h. mask_joined (state t) s x roles.result (roles.ensures ∙ sym (covered_roles_are t _ (is_table_lem t c.told-t))) p.1.rows h words)
