-- `is_covered` meets its contract: a role is looked for that is one of the granted or senior to one. Assumes nothing.
use Rattle.std.proofs.Common.{rules}
use Rattle.bits.proofs.Chains.{some_is}
use Rattle.table.proofs.is_covered.Goals as goal

pub returns : goal.returns
returns c = some_is _ _ c.of.ensures c.ranges.roles.fits c.any.ensures.ran (λ r f k. (search rules, λ l. search rules)) (λ r f k l. search rules)
