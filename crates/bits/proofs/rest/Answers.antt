-- `bits::rest` meets its contract. Assumes nothing.
use Rattle.std.proofs.Common.{◌-◌, sym, ap, ◌∙◌, arith}
use lib.Bits.{and_le_r}
use Rattle.bits.specs.Sets.{rest}
use Rattle.bits.proofs.Walk.{rest_is, rest_none}
use Rattle.bits.proofs.rest.Goals as goal

pub returns-then-w-eq0 : goal.returns-then-w-eq0
returns-then-w-eq0 c = record { is = sym (ap rest c.if-w-eq0.true ∙ rest_none); less = omega arith }

pub returns : goal.returns
returns c =
    let w = c.args.w in
    record { is = rest_is w c.ranges.w.fits c.if-w-eq0.false; less = and_le_r w (w - 1) }
