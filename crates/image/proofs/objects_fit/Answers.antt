-- `objects_fit` meets its contract. Assumes nothing.
use lib.Dec.{eqb}
use Rattle.std.proofs.Common.{rules}
use Rattle.bits.specs.Words.{◌and◌}
use Rattle.bits.proofs.Chains.{all_is}
use Rattle.table.specs.Reading.{state}
use Rattle.image.specs.Image.{granted_roles}
use Rattle.image.specs.Test.{machine_of, objects_fit}
use Rattle.image.proofs.objects_fit.Goals as goal

pub returns : goal.returns
unfolding objects_fit machine_of granted_roles ◌and◌
returns c =
    let S = state c.args.t.now in
    all_is (λ o. eqb (S.granted 0 o) (granted_roles ((machine_of S).label o) 0) and eqb (S.granted 1 o) (granted_roles ((machine_of S).label o) 1)) c.all.ensures.ran
    (λ o q k. (search rules, λ l. search rules)) (λ o q k l. search rules)
