-- `user_fits` meets its contract: every session of the user is asked. Assumes nothing.
use mathlib.Core.Path.{◌∙◌}
use lib.Dec.{eqb}
use Rattle.std.proofs.Common.{rules, ◌+◌}
use Rattle.bits.specs.Words.{subset}
use Rattle.bits.proofs.Chains.{all_picked_is}
use Rattle.table.specs.Reading.{state}
use Rattle.sound.proofs.Answers.{sessions_by}
use Rattle.sound.proofs.user_fits.Goals as goal

pub returns : goal.returns
returns c =
    let S = state c.args.t.now in
    all_picked_is (λ s. eqb (S.owner s) (c.args.u + 1)) (λ s. subset (S.active s) c.authorised_roles-roles.result)
    c.filter.ensures.source c.filter.ensures.closure (λ s b j k. (search rules, search rules))
    c.all.ensures.ran (λ s j k. (search rules, search rules)) (λ s j k. search rules)
    ∙ sessions_by c.args.t.now c.args.u c.told-t c.requires c.authorised_roles-roles.ensures
