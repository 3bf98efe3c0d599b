-- `sessions_separate` meets its contract: every session is asked. Assumes nothing.
use mathlib.Core.Path.{◌∙◌}
use Rattle.std.proofs.Common.{rules}
use Rattle.bits.specs.Words.{has}
use Rattle.bits.proofs.Chains.{all_is}
use Rattle.table.specs.Reading.{state}
use Rattle.separation.specs.Answers.{sets_fit}
use Rattle.separation.proofs.Sets.{sessions_is}
use Rattle.separation.proofs.sessions_separate.Goals as goal

pub returns : goal.returns
returns c =
    let S = state c.args.t.now in
    all_is (λ s. sets_fit S 16 (has (S.active s))) c.all.ensures.ran
    (λ s q k. (search rules, λ l. search rules)) (λ s q k l. search rules)
    ∙ sessions_is S
