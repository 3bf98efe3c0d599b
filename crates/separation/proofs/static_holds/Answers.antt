-- `static_holds` meets its contract: every user is asked. Assumes nothing.
use Rattle.std.proofs.Common.{rules}
use Rattle.bits.proofs.Chains.{all_is}
use Rattle.table.specs.Authority.{authorised}
use Rattle.table.specs.Separation.{fewer}
use Rattle.table.specs.Reading.{state}
use Rattle.separation.proofs.Sets.{authorised_fewer}
use Rattle.separation.proofs.static_holds.Goals as goal

pub returns : goal.returns
returns c =
    all_is (λ u. fewer c.args.m c.args.b (authorised (state c.args.t.now) u)) c.all.ensures.ran
    (λ u q k. (search rules, λ l. search (rules, authorised_fewer))) (λ u q k l. search (rules, authorised_fewer))
