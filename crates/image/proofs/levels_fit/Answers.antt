-- `levels_fit` meets its contract. Assumes nothing.
use lib.Dec.{eqb}
use Rattle.std.proofs.Common.{rules}
use Rattle.bits.proofs.Chains.{all_is}
use Rattle.table.specs.Reading.{state}
use Rattle.image.specs.Image.{seat_roles}
use Rattle.image.specs.Test.{machine_of, levels_fit}
use Rattle.image.proofs.levels_fit.Goals as goal

pub returns : goal.returns
unfolding levels_fit machine_of
returns c =
    all_is (λ s. eqb ((state c.args.t.now).active s) (seat_roles ((machine_of (state c.args.t.now)).seat s))) c.all.ensures.ran
    (λ s q k. (search rules, λ l. search rules)) (λ s q k l. search rules)
