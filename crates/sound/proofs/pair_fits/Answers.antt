-- `pair_fits` meets its contract: every session that holds the pair is asked. Assumes nothing.
use mathlib.Core.Path.{◌∙◌}
use Rattle.std.proofs.Common.{rules}
use Rattle.bits.specs.Words.{has}
use Rattle.bits.proofs.Chains.{all_picked_is}
use Rattle.table.specs.Reading.{state}
use Rattle.table.specs.Answers.{openable}
use Rattle.sound.proofs.Answers.{pair_by}
use Rattle.sound.proofs.pair_fits.Goals as goal

pub returns : goal.returns
returns c =
    let a = c.args in
    all_picked_is (λ s. has ((state a.t.now).holds s a.x) a.o) (λ s. openable a.t.now s a.x a.o)
    c.filter.ensures.source c.filter.ensures.closure (λ s b j k. (search rules, search rules))
    c.all.ensures.ran (λ s j k. (search rules, search rules)) (λ s j k. search rules)
    ∙ pair_by a.t.now a.x a.o c.told-t c.requires.0 c.requires.1
