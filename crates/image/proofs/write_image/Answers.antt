-- `write_image` meets its contract: six sections written and the rest cleared. Assumes nothing.
use Prim.Native.Nat.{ℕ}
use mathlib.Core.Path.{ap, ap₂, ◌∙◌}
use mathlib.Core.List.{List}
use Rattle.table.specs.Answers.{overlay, cleared_from}
use Rattle.image.proofs.Rows.{rows, masks}
use Rattle.image.proofs.Writing.{written_image}
use Rattle.image.proofs.write_image.Goals as goal

pub returns : goal.returns
returns c =
    let a = c.args in
    c.overlay-6.ensures
    ∙ ap (λ (l : List ℕ). overlay l 1032 rows)
    (c.clear_from.ensures
    ∙ ap (λ (l : List ℕ). cleared_from l 264)
    (c.overlay-5.ensures
    ∙ ap₂ (λ (l v : List ℕ). overlay l 200 v)
    (c.overlay-4.ensures
    ∙ ap₂ (λ (l v : List ℕ). overlay l 136 v)
    (c.overlay-3.ensures
    ∙ ap₂ (λ (l v : List ℕ). overlay l 72 v)
    (c.overlay-2.ensures
    ∙ ap (λ (l : List ℕ). overlay l 64 masks) (c.overlay.ensures ∙ ap (overlay _ 0) c.seniority_words.ensures))
    c.assigned_words.ensures)
    c.granted_words.ensures)
    c.granted_words-2.ensures))
    ∙ written_image a.t.now a.clearances.now a.labels.now c.told-t
