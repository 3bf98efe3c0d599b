-- `label_of` meets its contract. Assumes nothing.
use borrow.Author.Rules.{rules}
use Rattle.image.specs.Test.{label_of}
use Rattle.image.proofs.label_of.Goals as goal

pub returns : goal.returns
unfolding label_of
returns c = search rules
