-- `same_users` meets its contract: user by user. Assumes nothing.
use Rattle.std.proofs.Common.{rules}
use Rattle.bits.proofs.Chains.{all_is}
use Rattle.table.specs.Reading.{state}
use Rattle.alike.specs.Likeness.{same_user}
use Rattle.alike.proofs.Likeness.{same_read}
use Rattle.alike.proofs.same_users.Goals as goal

pub returns : goal.returns
returns c =
    all_is (λ u. same_user (state c.args.first.now) (state c.args.second.now) u) c.all.ensures.ran
    (λ u q k. (search rules, λ l. search (rules, same_read))) (λ u q k l. search (rules, same_read))
