-- `Standing::equal_or_above` meets its contract. Assumes nothing.
use borrow.Author.Rules.{rules}
use Rattle.machine.specs.Label.{equal_or_above}
use Rattle.machine.proofs.Standing.equal_or_above.Goals as goal

pub returns-in-Equal : goal.returns-in-Equal
unfolding equal_or_above
returns-in-Equal c = search rules

pub returns-in_default : goal.returns-in_default
unfolding equal_or_above
returns-in_default c = search rules
