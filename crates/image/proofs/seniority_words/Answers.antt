-- `seniority_words` meets its contract. Assumes nothing.
use Rattle.std.proofs.Common.{rules}
use Rattle.bits.specs.Words.{pack}
use Rattle.bits.proofs.Chains.{made_is}
use Rattle.image.specs.Image.{above}
use Rattle.image.proofs.seniority_words.Goals as goal

pub returns : goal.returns
returns c = made_is _ (λ r. pack 64 (above r)) 64 (λ r y q k. (search rules, λ l. search rules)) c.from_fn.ensures.items
