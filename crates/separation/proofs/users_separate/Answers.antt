-- `users_separate` meets its contract: every user is asked. Assumes nothing.
use mathlib.Core.Path.{◌∙◌}
use Rattle.std.proofs.Common.{rules}
use Rattle.bits.proofs.Chains.{all_is}
use Rattle.table.specs.Authority.{authorised}
use Rattle.table.specs.Reading.{state}
use Rattle.separation.specs.Answers.{sets_fit}
use Rattle.separation.proofs.Sets.{authorised_fit, users_is}
use Rattle.separation.proofs.users_separate.Goals as goal

pub returns : goal.returns
returns c =
    let S = state c.args.t.now in
    all_is (λ u. sets_fit S 0 (authorised S u)) c.all.ensures.ran
    (λ u q k. (search rules, λ l. search (rules, authorised_fit))) (λ u q k l. search (rules, authorised_fit))
    ∙ users_is S
