-- `bits::with` meets its contract. Assumes nothing.
use Rattle.std.proofs.Common.{ℕ, ◌<◌, sym, ap, ◌∙◌, arith, bit_or}
use Rattle.bits.proofs.Word.{with_is, with_past, shifted}
use Rattle.bits.proofs.with.Goals as goal

pub returns-then-i-gt63 : goal.returns-then-i-gt63
returns-then-i-gt63 c = sym (with_past c.args.w c.args.i c.ranges.w.fits c.if-i-gt63.true)

pub returns : goal.returns
returns c =
    let a = c.args in
    let l : a.i < 64 = omega arith in
    ap (λ (x : ℕ). bit_or a.w x) (shifted a.i l) ∙ with_is a.w a.i c.ranges.w.fits l
