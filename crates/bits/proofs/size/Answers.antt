-- `bits::size` meets its contract. Assumes nothing.
use Rattle.bits.proofs.Counting.{ones_size}
use Rattle.bits.proofs.size.Goals as goal

pub returns : goal.returns
returns c = ones_size c.args.w c.ranges.w.fits
