-- `bits::subset` meets its contract. Assumes nothing.
use Rattle.bits.proofs.Membership.{subset_is}
use Rattle.bits.proofs.subset.Goals as goal

pub returns : goal.returns
returns c = subset_is c.args.a c.args.b c.ranges.a.fits c.ranges.b.fits
