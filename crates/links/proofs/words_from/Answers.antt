-- `words_from` meets its contract. Assumes nothing.
use Rattle.std.proofs.Common.{rules}
use Rattle.bits.proofs.Chains.{made_is}
use Rattle.links.proofs.words_from.Goals as goal

pub returns : goal.returns
returns c = made_is _ _ 64 (λ i w q k. (search rules, λ l. search rules)) c.from_fn.ensures.items
