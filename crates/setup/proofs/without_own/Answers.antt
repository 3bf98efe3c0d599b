-- `without_own` meets its contract. Assumes nothing.
use Rattle.std.proofs.Common.{rules}
use Rattle.bits.specs.Words.{get_or}
use Rattle.bits.specs.Sets.{◌without◌}
use Rattle.bits.proofs.Chains.{made_is}
use Rattle.setup.proofs.without_own.Goals as goal

pub returns : goal.returns
returns c = made_is _ (λ r. get_or c.args.direct.now r 0 without r) 64 (λ r y q k. (search rules, λ l. search rules)) c.from_fn.ensures.items
