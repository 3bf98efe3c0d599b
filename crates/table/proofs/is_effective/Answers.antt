-- `is_effective` meets its contract. Assumes nothing.
use mathlib.Core.Logic.{⊎_elim}
use mathlib.Core.Path.{sym, ◌∙◌}
use native.Mathlib.Omega.{arith}
use Rattle.bits.specs.Sets.{overlap}
use Rattle.bits.proofs.Truth.{clash, true_and}
use Rattle.table.specs.Authority.{effective}
use Rattle.table.proofs.State.{effective_elim}
use Rattle.table.proofs.Answers.{openable_is, not_openable}
use Rattle.table.proofs.is_effective.Goals as goal

pub returns-in_default : goal.returns-in_default
returns-in_default c = not_openable _ _ _ _ (λ k. c.in_default.ensures.cases k.a_table)

pub returns-then-s-gt31 : goal.returns-then-s-gt31
returns-then-s-gt31 c =
    not_openable c.args.t.now c.args.s c.args.x c.args.o (λ k.
    let h = k.session in let m = k.mode in let n = k.object in
    ⊎_elim (λ p. omega arith) (λ p. ⊎_elim (λ q. omega arith) (λ q. omega arith) p) c.then-s-gt31.either)

pub returns-then-has : goal.returns-then-has
unfolding effective overlap
returns-then-has c =
    let a = c.args in
    let table = c.in-Some.ensures.cases in
    let has = rw table.same at (sym c.has.ensures ∙ c.if-has.true) in
    let covered = rw table.same at c.is_covered.ensures in
    covered ∙ sym (true_and _ has) ∙ openable_is a.t.now a.s a.x a.o table.long (omega arith) (omega arith) (omega arith)

pub returns-else-has : goal.returns-else-has
returns-else-has c =
    let table = c.in-Some.ensures.cases in
    let has = rw table.same at (sym c.has.ensures ∙ c.if-has.false) in
    c.if-has.false ∙ not_openable _ _ _ _ (λ k. clash (effective_elim _ _ _ _ k.allowed).permitted_pair has)
