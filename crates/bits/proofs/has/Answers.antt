-- `bits::has` meets its contract. Assumes nothing.
use Rattle.std.proofs.Common.{rules, sym}
use Rattle.bits.specs.Words.{has}
use Rattle.bits.proofs.Word.{has_past}
use Rattle.bits.proofs.has.Goals as goal

pub returns-then-i-gt63 : goal.returns-then-i-gt63
returns-then-i-gt63 c = sym (has_past c.args.w c.args.i c.ranges.w.fits c.if-i-gt63.true)

pub returns : goal.returns
unfolding has
returns c = search rules
