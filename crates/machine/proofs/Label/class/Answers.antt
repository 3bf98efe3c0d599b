-- `Label::class` meets its contract. Assumes nothing.
use borrow.Author.Rules.{rules}
use Rattle.machine.specs.Label.{class}
use Rattle.machine.proofs.Label.class.Goals as goal

pub returns : goal.returns
unfolding class
returns c = search rules
