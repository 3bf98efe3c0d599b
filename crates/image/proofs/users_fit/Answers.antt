-- `users_fit` meets its contract. Assumes nothing.
use lib.Dec.{eqb}
use Rattle.std.proofs.Common.{rules}
use Rattle.bits.proofs.Chains.{all_is}
use Rattle.table.specs.Reading.{state}
use Rattle.image.specs.Image.{cleared_roles}
use Rattle.image.specs.Test.{machine_of, users_fit}
use Rattle.image.proofs.users_fit.Goals as goal

pub returns : goal.returns
unfolding users_fit machine_of
returns c =
    all_is (λ u. eqb ((state c.args.t.now).assigned u) (cleared_roles ((machine_of (state c.args.t.now)).clearance u))) c.all.ensures.ran
    (λ u q k. (search rules, λ l. search rules)) (λ u q k l. search rules)
