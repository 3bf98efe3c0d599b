-- `dynamic_holds` meets its contract: every session is asked. Assumes nothing.
use Rattle.std.proofs.Common.{rules}
use Rattle.bits.specs.Words.{has}
use Rattle.bits.proofs.Chains.{all_is}
use Rattle.table.specs.Separation.{fewer}
use Rattle.table.specs.Reading.{state}
use Rattle.separation.proofs.dynamic_holds.Goals as goal

pub returns : goal.returns
returns c =
    all_is (λ s. fewer c.args.m c.args.b (has ((state c.args.t.now).active s))) c.all.ensures.ran
    (λ s q k. (search rules, λ l. search rules)) (λ s q k l. search rules)
