-- `pairs_good` meets its contract: each pair is looked at. Assumes nothing.
use mathlib.Core.Bool.{not}
use Rattle.std.proofs.Common.{rules}
use Rattle.bits.proofs.Chains.{all_is}
use Rattle.table.specs.Separation.{mask, bound, bad_pair}
use Rattle.table.specs.Reading.{state}
use Rattle.separation.proofs.pairs_good.Goals as goal

pub returns : goal.returns
returns c =
    let S = state c.args.t.now in
    all_is (λ n. not (bad_pair (mask S n) (bound S n))) c.all.ensures.ran
    (λ n q k. (search rules, λ l. search rules)) (λ n q k l. search rules)
