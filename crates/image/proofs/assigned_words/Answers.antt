-- `assigned_words` meets its contract. Assumes nothing.
use lib.ListN.{get_or}
use Rattle.std.proofs.Common.{rules}
use Rattle.bits.proofs.Chains.{made_is}
use Rattle.image.specs.Image.{cleared_roles}
use Rattle.image.proofs.assigned_words.Goals as goal

pub returns : goal.returns
returns c = made_is _ (λ u. cleared_roles (get_or c.args.clearances.now u 0)) 64 (λ u y q k. (search rules, λ l. search rules)) c.from_fn.ensures.items
