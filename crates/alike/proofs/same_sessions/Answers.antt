-- `same_sessions` meets its contract: word by word. Assumes nothing.
use mathlib.Core.Path.{◌∙◌}
use Rattle.std.proofs.Common.{rules}
use Rattle.bits.specs.Words.{◌and◌}
use Rattle.bits.proofs.Chains.{all_is}
use Rattle.alike.proofs.Likeness.{same_words, same_words_lem}
use Rattle.alike.proofs.same_sessions.Goals as goal

pub returns : goal.returns
unfolding ◌and◌
returns c =
    let p = c.requires in
    all_is (same_words c.args.first.now c.args.second.now) c.all.ensures.ran
    (λ i q k. (search rules, λ l. search rules)) (λ i q k l. search rules)
    ∙ same_words_lem _ _ p.0 p.1
