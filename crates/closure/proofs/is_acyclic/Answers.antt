-- `is_acyclic` meets its contract. Assumes nothing.
use Rattle.std.proofs.Common.{rules}
use Rattle.bits.proofs.Chains.{all_is}
use Rattle.closure.specs.Closure.{acyclic}
use Rattle.closure.proofs.is_acyclic.Goals as goal

pub returns : goal.returns
unfolding acyclic
returns c = all_is _ c.all.ensures.ran (λ u q k. search rules) (λ u q k l. search rules)
