-- `bits::overlap` meets its contract. Assumes nothing.
use Rattle.bits.proofs.Membership.{overlap_is}
use Rattle.bits.proofs.overlap.Goals as goal

pub returns : goal.returns
returns c = overlap_is c.args.a c.args.b c.ranges.a.fits
