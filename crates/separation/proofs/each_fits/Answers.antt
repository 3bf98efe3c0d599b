-- `each_fits` meets its contract: each set is asked. Assumes nothing.
use Prim.Native.Nat.{◌+◌}
use Rattle.std.proofs.Common.{rules}
use Rattle.bits.specs.Words.{has}
use Rattle.bits.proofs.Chains.{all_is}
use Rattle.table.specs.Separation.{mask, bound, fewer}
use Rattle.table.specs.Reading.{state}
use Rattle.separation.proofs.each_fits.Goals as goal

pub returns : goal.returns
returns c =
    let S = state c.args.t.now in
    let i = c.args.first in
    all_is (λ n. fewer (mask S (i + n)) (bound S (i + n)) (has c.args.roles)) c.all.ensures.ran
    (λ n q k. (search rules, λ l. search rules)) (λ n q k l. search rules)
