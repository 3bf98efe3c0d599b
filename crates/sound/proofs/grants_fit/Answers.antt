-- `grants_fit` meets its contract: nothing is granted, or each pair is asked. Assumes nothing.
use mathlib.Core.Path.{sym, ◌∙◌}
use Rattle.std.proofs.Common.{rules}
use Rattle.bits.proofs.Chains.{all_is}
use Rattle.table.specs.Reading.{state}
use Rattle.table.proofs.Answers.{words_empty_elim}
use Rattle.sound.specs.Tests.{grant_fits, grants_fit}
use Rattle.sound.proofs.Grants.{none_fits}
use Rattle.sound.proofs.grants_fit.Goals as goal

pub returns-then-words_empty : goal.returns-then-words_empty
returns-then-words_empty c = c.if-words_empty.true ∙ sym (none_fits _ _ (words_empty_elim _ _ 64 (sym c.if-words_empty.ensures)))

pub returns-else-words_empty : goal.returns-else-words_empty
unfolding grants_fit
returns-else-words_empty c =
    all_is (λ o. grant_fits (state c.args.t.now) c.args.x o) c.all.ensures.ran (λ o q k. (search rules, λ l. search rules)) (λ o q k l. search rules)
