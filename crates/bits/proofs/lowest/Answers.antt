-- `bits::lowest` meets its contract. Assumes nothing.
use Rattle.bits.proofs.Walk.{lowest_found}
use Rattle.bits.proofs.lowest.Goals as goal

pub returns : goal.returns
returns c = lowest_found c.args.w c.ranges.w.fits
