-- The goals that are left.
use Prim.Native.Nat.{◌-◌, ◌/◌}
use native.Mathlib.Omega.{arith}
use Rattle.output.proofs.Writing.{wrote_nothing, wrote_one, wrote_more, text_none, text_one, text_more, length_text}
use Rattle.output.proofs.+put_text.Goals as goal

pub returns-then-k-eq0 : goal.returns-then-k-eq0
returns-then-k-eq0 t c = rw (text_none _ c.args.n c.if-k-eq0.true) (wrote_nothing _ _)

pub returns-then-n-le9 : goal.returns-then-n-le9
returns-then-n-le9 t c = rw (text_one _ _ c.if-k-eq0.false c.if-n-le9.true) (wrote_one _ _ _ _ c.digit.ensures)

pub bounds-out-i : goal.bounds-out-i
bounds-out-i t c =
    let a = c.args in
    let put = c.put_text-i in
    omega (arith, put.auto.out, put.ensures.next_is, length_text (a.k - 1) (a.n / 10))

pub overflow_add-result-2 : goal.overflow_add-result-2
overflow_add-result-2 t c =
    let a = c.args in
    let put = c.put_text-i in
    record { fits = omega (arith, put.auto.out, put.ensures.next_is, length_text (a.k - 1) (a.n / 10)) }

pub returns : goal.returns
returns t c =
    rw (text_more _ _ c.if-k-eq0.false c.if-n-le9.false) (wrote_more c.put_text-i.ensures (wrote_one _ _ _ _ c.digit-2.ensures))
