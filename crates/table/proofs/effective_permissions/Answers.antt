-- `effective_permissions` meets its contract: what is granted to the active roles and their juniors is what is effective.
-- Assumes nothing.
use mathlib.Core.Path.{ap, ◌∙◌}
use native.Mathlib.Omega.{arith}
use lib.ListN.{length}
use Rattle.std.proofs.Common.{rules}
use Rattle.bits.specs.Words.{pack}
use Rattle.bits.proofs.Chains.{made_is}
use Rattle.table.specs.Authority.{effective}
use Rattle.table.specs.Reading.{state}
use Rattle.table.proofs.Table.{in_table, short_table, past_table}
use Rattle.table.proofs.Answers.{effective_permissions_none, effective_permissions_are, granted_effective}
use Rattle.table.proofs.effective_permissions.Goals as goal

pub returns-in_default : goal.returns-in_default
returns-in_default c = effective_permissions_none _ _ (short_table _ _ _ c.in_default.ensures.cases)

pub returns-then-s-gt31 : goal.returns-then-s-gt31
returns-then-s-gt31 c = effective_permissions_none _ _ (past_table _ _ _ c.if-s-gt31.true)

pub returns : goal.returns
returns c =
    let table = c.in-Some.ensures.cases in
    rw (← table.same) (made_is _ (λ x. pack 64 (effective (state c.in-Some.table.now) c.args.s x)) 8
    (λ x w q k. (search rules, λ l. granted_effective _ c.args.s x _ c.juniors_of-roles.ensures (search rules)))
    c.from_fn.ensures.items
    ∙ effective_permissions_are _ _ (in_table _ _ _ (ap length table.same ∙ table.long) (omega arith)))
