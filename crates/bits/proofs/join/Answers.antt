-- `bits::join` meets its contract. Assumes nothing.
use Rattle.bits.proofs.Word.{join_is}
use Rattle.bits.proofs.join.Goals as goal

pub returns : goal.returns
returns c = join_is c.args.a c.args.b c.ranges.a.fits c.ranges.b.fits
