-- `masks_true` meets its contract. Assumes nothing.
use mathlib.Core.Path.{sym, ◌∙◌}
use lib.Dec.{eqb}
use lib.ListN.{get_or}
use Rattle.bits.proofs.Chains.{all_is}
use Rattle.std.proofs.Common.{rules, ◌+◌}
use Rattle.sound.proofs.Masks.{found_idle, found_masks}
use Rattle.sound.proofs.masks_true.Goals as goal

pub returns-then-words_empty : goal.returns-then-words_empty
returns-then-words_empty c = c.words_empty-then-words_empty.ensures ∙ found_idle c.args.t.now c.told-t (sym c.if-words_empty.ensures)

pub returns : goal.returns
returns c =
    all_is (λ i. eqb (get_or c.args.t.now (1096 + i) 0) (get_or c.all_masks-masks.result i 0)) c.all.ensures.ran
    (λ i q k. (search rules, λ l. search rules)) (λ i q k l. search rules)
    ∙ found_masks c.args.t.now c.told-t c.all_masks-masks.ensures
