-- `run` meets its contract: the refusals in their order, then the requests. Assumes nothing.
use Prim.Native.Nat.{ℕ}
use mathlib.Core.Path.{sym, ap, ap₂, ◌∙◌}
use mathlib.Core.List.{List}
use Rattle.table.proofs.Table.{is_table_lem, not_table}
use Rattle.machine.specs.Wall.{trace, final}
use Rattle.labels.specs.Guard.{image_step}
use Rattle.simulation.specs.Run.{asks, flat, kept}
use Rattle.simulation.proofs.Running.{three, run_short, run_unpaired, odd_words, other_replies, is_paired, run_refused, run_accepted}
use Rattle.simulation.proofs.run.Goals as goal

pub returns-then-t-ne-WORDS : goal.returns-then-t-ne-WORDS
returns-then-t-ne-WORDS c =
    let a = c.args in
    three (run_short a.t.now a.clearances.now a.labels.now a.words.now a.replies.now (not_table _ c.if-t-ne-WORDS.true))

pub returns-then-words-ne0 : goal.returns-then-words-ne0
returns-then-words-ne0 c =
    let a = c.args in
    three (run_unpaired a.t.now a.clearances.now a.labels.now a.words.now a.replies.now (is_table_lem _ c.if-t-ne-WORDS.false)
    (odd_words a.t.now a.clearances.now a.labels.now a.words.now a.replies.now c.if-words-ne0.true))

pub returns-then-replies-words : goal.returns-then-replies-words
returns-then-replies-words c =
    let a = c.args in
    three (run_unpaired a.t.now a.clearances.now a.labels.now a.words.now a.replies.now (is_table_lem _ c.if-t-ne-WORDS.false)
    (other_replies a.t.now a.clearances.now a.labels.now a.words.now a.replies.now c.if-replies-words.true))

pub returns-then-number-ne1 : goal.returns-then-number-ne1
returns-then-number-ne1 c =
    let a = c.args in
    let n = c.number.ensures ∙ c.label_setup-answer.ensures.answer in
    three
    (run_refused a.t.now a.clearances.now a.labels.now a.words.now a.replies.now (is_table_lem _ c.if-t-ne-WORDS.false)
    (is_paired a.t.now a.clearances.now a.labels.now a.words.now a.replies.now c.if-words-ne0.false c.if-replies-words.false)
    (λ z. c.if-number-ne1.true (n ∙ z))
    ∙ ap₂ (λ (k : ℕ) (l : List ℕ). kept k l a.replies.now) (sym c.label_setup-answer.ensures.answer) (sym c.label_setup-answer.ensures.table))

pub returns : goal.returns
returns c =
    let a = c.args in
    let z = c.label_setup-answer.ensures.table in
    three
    (run_accepted a.t.now a.clearances.now a.labels.now a.words.now a.replies.now (is_table_lem _ c.if-t-ne-WORDS.false)
    (is_paired a.t.now a.clearances.now a.labels.now a.words.now a.replies.now c.if-words-ne0.false c.if-replies-words.false)
    (sym (c.number.ensures ∙ c.label_setup-answer.ensures.answer) ∙ c.if-number-ne1.false)
    ∙ ap₂ (kept 1)
    (sym (c.serve_all.ensures.table ∙ ap (λ (l : List ℕ). final image_step l (asks a.words.now)) z))
    (sym (c.serve_all.ensures.replies ∙ ap (λ (l : List ℕ). flat (trace image_step l (asks a.words.now))) z)))
