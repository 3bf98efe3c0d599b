-- `sheetguard_statement` meets its contract: what `tally::statement` says, written where it is no refusal. Assumes nothing.
use mathlib.Core.Path.{sym, ap, ◌∙◌}
use native.Mathlib.Omega.{arith}
use lib.Dec.{eqb}
use borrow.Author.Tests.{ne_eqb}
use Rattle.bits.proofs.Truth.{if_true, if_false}
use Rattle.requests.proofs.Refusals.{refusal_from}
use Rattle.tally.specs.Statement.{Stated}
use Rattle.sheetguard.specs.Stating.{charges_left, total_left}
use Rattle.sheetguard.proofs.sheetguard_statement.Goals as goal

pub returns-in-Ok : goal.returns-in-Ok
unfolding charges_left total_left
returns-in-Ok c =
    let e = sym c.in-Ok.ensures in
    let yes = ap (λ (k : Stated). eqb k.answer 1) e in
    record {
      answer = c.number.ensures ∙ ap (λ (k : Stated). k.answer) (sym e);
      charges = c.copy_from_slice.ensures.after ∙ sym (if_true _ _ yes ∙ ap (λ (k : Stated). k.charges) e);
      total = sym (if_true _ _ yes ∙ ap (λ (k : Stated). k.total) e);
    }

pub returns-in-Err : goal.returns-in-Err
unfolding charges_left total_left
returns-in-Err c =
    let e = sym c.in-Err.ensures in
    let no = ap (λ (k : Stated). eqb k.answer 1) e ∙ ne_eqb _ 1 (λ z. let h = refusal_from c.in-Err.why in omega (arith, h, z)) in
    record {
      answer = c.number-in-Err.ensures ∙ ap (λ (k : Stated). k.answer) (sym e);
      charges = sym (if_false _ _ no);
      total = sym (if_false _ _ no);
    }
