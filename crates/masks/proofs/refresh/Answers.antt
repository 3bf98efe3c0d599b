-- `refresh` meets its contract. Assumes nothing.
use borrow.Author.Rules.{rules}
use mathlib.Core.Logic.{⊎_elim}
use mathlib.Core.Path.{◌∙◌}
use native.Mathlib.Omega.{arith}
use Rattle.table.proofs.Table.{short_table, past_table}
use Rattle.masks.proofs.Refreshing.{session_refreshed_lem, session_left}
use Rattle.masks.proofs.refresh.Goals as goal

pub returns-then-t-ne-WORDS : goal.returns-then-t-ne-WORDS
returns-then-t-ne-WORDS c =
    let t = c.args.t.now in
    let s = c.args.s in
    session_left t s (⊎_elim (λ n. short_table t s 32 n) (λ p. past_table t s 32 p.1) c.then-t-ne-WORDS.either)

pub returns : goal.returns
returns c =
    let a = c.args in
    c.overlay.ensures
    ∙ session_refreshed_lem a.t.now a.s c.if-t-ne-WORDS.false (omega arith) c.effective_permissions-masks.ensures (search rules)
