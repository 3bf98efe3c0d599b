-- The goal that is left.
use mathlib.Core.Path.{sym, ◌∙◌}
use Rattle.reader.proofs.Fresh.{fresh_new}
use Rattle.lines.proofs.Going.{same_on}
use Rattle.lines.proofs.feed.Goals as goal

pub returns-then-saturating_sub-ge-ROOM : goal.returns-then-saturating_sub-ge-ROOM
returns-then-saturating_sub-ge-ROOM c =
    let a = c.args in
    c.read_on.ensures ∙ sym c.usual-reader.ensures ∙ sym (same_on a.block.now a.at (fresh_new a.r (sym c.is_fresh.ensures ∙ c.if-is_fresh.true)))
