-- `Label::set` meets its contract. Assumes nothing.
use borrow.Author.Rules.{rules}
use Rattle.machine.specs.Label.{brands}
use Rattle.machine.proofs.Label.set.Goals as goal

pub returns : goal.returns
unfolding brands
returns c = search rules
