-- `holds_within` meets its contract: each mode is asked. Assumes nothing.
use lib.ListN.{get_or}
use Rattle.std.proofs.Common.{rules}
use Rattle.bits.specs.Words.{subset}
use Rattle.bits.proofs.Chains.{all_is}
use Rattle.table.specs.Reading.{state}
use Rattle.sound.specs.Answers.{held_within}
use Rattle.sound.proofs.holds_within.Goals as goal

pub returns : goal.returns
unfolding held_within
returns c =
    all_is (λ x. subset ((state c.args.t.now).holds c.args.s x) (get_or c.args.masks.now x 0)) c.all.ensures.ran
    (λ x q k. (search rules, λ l. search rules)) (λ x q k l. search rules)
