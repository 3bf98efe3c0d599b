-- `may_activate` meets its contract. Assumes nothing.
use Prim.Native.Nat.{ℕ}
use mathlib.Core.Logic.{⊎_elim}
use mathlib.Core.Path.{sym, ap, ◌∙◌}
use native.Mathlib.Omega.{arith}
use borrow.Author.Tests.{eq-eqb, ne_eqb}
use Rattle.bits.specs.Words.{has}
use Rattle.bits.proofs.Truth.{clash}
use Rattle.bits.proofs.Word.{has_pack}
use Rattle.table.specs.Authority.{authorised}
use Rattle.table.proofs.State.{may_activate_idle, may_activate_busy}
use Rattle.table.proofs.Answers.{activatable_is, not_activatable}
use Rattle.table.proofs.may_activate.Goals as goal

pub returns-in_default : goal.returns-in_default
returns-in_default c = not_activatable _ _ _ (λ k. c.in_default.ensures.cases k.a_table)

pub returns-then-s-gt31 : goal.returns-then-s-gt31
returns-then-s-gt31 c =
    not_activatable c.args.t.now c.args.s c.args.r (λ k.
    let h = k.session in let m = k.role in
    ⊎_elim (λ p. omega arith) (λ p. omega arith) c.then-s-gt31.either)

pub returns-then-owner-eq0 : goal.returns-then-owner-eq0
returns-then-owner-eq0 c =
    let owner = rw c.in-Some.ensures.cases.same at c.then-owner-eq0.either in
    not_activatable c.args.t.now c.args.s c.args.r (λ k.
    let h = k.known in
    ⊎_elim (λ p. clash k.allowed (may_activate_idle _ _ _ (eq-eqb _ 0 p))) (λ p. omega arith) owner)

pub returns : goal.returns
unfolding authorised
returns c =
    let a = c.args in
    let table = c.in-Some.ensures.cases in
    let known = rw table.same at c.if-owner-gt64.false in
    let busy = rw table.same at c.if-owner-eq0.false in
    let roles = rw table.same at c.juniors_of.ensures in
    c.has.ensures
    ∙ ap (λ (w : ℕ). has w a.r) roles
    ∙ has_pack _ 64 a.r (omega arith)
    ∙ sym (may_activate_busy _ a.s a.r (ne_eqb _ 0 busy))
    ∙ activatable_is a.t.now a.s a.r table.long (omega arith) (omega arith) known
