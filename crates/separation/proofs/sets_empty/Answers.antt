-- `sets_empty` meets its contract. Assumes nothing.
use mathlib.Core.Path.{◌∙◌}
use Rattle.separation.proofs.Sets.{sets_empty_is}
use Rattle.separation.proofs.sets_empty.Goals as goal

pub returns : goal.returns
returns c = c.words_empty.ensures ∙ sets_empty_is _
