-- `all_sessions_fit` meets its contract: every session is asked, with its eight masks. Assumes nothing.
use mathlib.Core.Path.{◌∙◌}
use lib.ListN.{get_or}
use Rattle.std.proofs.Common.{rules, []}
use Rattle.bits.proofs.Chains.{all_is}
use Rattle.table.specs.Reading.{state}
use Rattle.sound.specs.Tests.{session_fits}
use Rattle.sound.proofs.Masks.{eights_fit}
use Rattle.sound.proofs.all_sessions_fit.Goals as goal

pub returns : goal.returns
returns c =
    let chunks = c.as_chunks.result.0.now in
    all_is (λ s. session_fits (state c.args.t.now) s (λ x. get_or (get_or chunks s []) x 0)) c.all.ensures.ran
    (λ s q k. (search rules, λ l. search rules)) (λ s q k l. search rules)
    ∙ eights_fit _ c.args.masks.now c.requires c.as_chunks.ensures.front
