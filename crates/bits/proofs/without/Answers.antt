-- `bits::without` meets its contract. Assumes nothing.
use Rattle.std.proofs.Common.{ℕ, ◌-◌, ◌^◌, ◌<◌, sym, ap, ◌∙◌, arith, bit_and}
use Rattle.bits.proofs.Word.{without_is, without_past, shifted}
use Rattle.bits.proofs.without.Goals as goal

pub returns-then-i-gt63 : goal.returns-then-i-gt63
returns-then-i-gt63 c = sym (without_past c.args.w c.args.i c.ranges.w.fits c.if-i-gt63.true)

pub returns : goal.returns
returns c =
    let a = c.args in
    let l : a.i < 64 = omega arith in
    ap (λ (x : ℕ). bit_and a.w (2 ^ 64 - 1 - x)) (shifted a.i l) ∙ without_is a.w a.i c.ranges.w.fits l
