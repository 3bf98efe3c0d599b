-- `bits::meet` meets its contract. Assumes nothing.
use Rattle.bits.proofs.Counting.{meet_is}
use Rattle.bits.proofs.meet.Goals as goal

pub returns : goal.returns
returns c = meet_is c.args.a c.args.b c.ranges.a.fits
