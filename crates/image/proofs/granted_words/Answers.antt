-- `granted_words` meets its contract. Assumes nothing.
use Prim.Native.Nat.{◌+◌}
use lib.ListN.{get_or}
use Rattle.std.proofs.Common.{rules}
use Rattle.bits.specs.Words.{◌with◌}
use Rattle.bits.proofs.Chains.{made_is}
use Rattle.image.proofs.granted_words.Goals as goal

pub returns : goal.returns
returns c = made_is _ (λ o. 0 with (c.args.first + get_or c.args.labels.now o 0)) 64 (λ o y q k. (search rules, λ l. search rules)) c.from_fn.ensures.items
