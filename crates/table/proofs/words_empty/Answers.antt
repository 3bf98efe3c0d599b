-- The goals that are left.
use mathlib.Core.Path.{◌∙◌}
use native.Mathlib.Omega.{arith}
use Rattle.table.proofs.Answers.{words_empty_are, not_words_empty}
use Rattle.table.proofs.Gathering.{gather_start, gather_step, gather_end}
use Rattle.table.proofs.words_empty.Goals as goal

pub returns : goal.returns
returns c =
    let a = c.args in
    gather_end _ _ c.loop-i.invariant c.loop-i-test.false
    ∙ words_empty_are a.t.now a.at a.n c.if-t-ne-WORDS.false (omega arith)

pub returns-then-t-ne-WORDS : goal.returns-then-t-ne-WORDS
returns-then-t-ne-WORDS c = not_words_empty _ _ _ (λ e h. c.if-t-ne-WORDS.true e)

pub returns-then-at-gt-WORDS : goal.returns-then-at-gt-WORDS
returns-then-at-gt-WORDS c = not_words_empty _ _ _ (λ e h. omega arith)

pub returns-then-at-n : goal.returns-then-at-n
returns-then-at-n c = not_words_empty _ _ _ (λ e h. omega arith)

pub loop-i-init : goal.loop-i-init
loop-i-init c = gather_start _ _

pub loop-i-preserved : goal.loop-i-preserved
loop-i-preserved c = gather_step _ _ c.loop-i.invariant c.loop-i-test.true (c.type_inv.t _).fits c.join-words.ensures
