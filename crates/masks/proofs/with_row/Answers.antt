-- `with_row` meets its contract. Assumes nothing.
use Rattle.std.proofs.Common.{rules}
use Rattle.bits.proofs.Chains.{made_is}
use Rattle.masks.specs.Gathered.{with_row}
use Rattle.masks.proofs.with_row.Goals as goal

pub returns : goal.returns
unfolding with_row
returns c = made_is _ _ 8 (λ x w q k. (search rules, λ l. search rules)) c.from_fn.ensures.items
