-- `holders_fit` meets its contract. Assumes nothing.
use Prim.Native.Nat.{suc-le-suc}
use mathlib.Core.Path.{sym, ◌∙◌}
use mathlib.Core.Logic.{⊎_elim}
use lib.Dec.{ltb}
use borrow.Author.Tests.{le-ltb}
use Rattle.bits.proofs.Truth.{false_and, and_false}
use Rattle.table.specs.Table.{is_table}
use Rattle.table.proofs.Table.{not_table}
use Rattle.sound.specs.Answers.{holders_of}
use Rattle.sound.proofs.Answers.{holders_are}
use Rattle.sound.proofs.holders_fit.Goals as goal

pub returns-in_default : goal.returns-in_default
unfolding holders_of
returns-in_default c = sym (false_and _ (not_table _ c.in_default.ensures.cases))

pub returns-then-x-gt7 : goal.returns-then-x-gt7
unfolding holders_of
returns-then-x-gt7 c =
    sym (and_false (is_table _) (⊎_elim
    (λ past. false_and _ (le-ltb c.args.x 8 past))
    (λ past. and_false (ltb c.args.x 8) (false_and _ (le-ltb c.args.o 64 past.1)))
    c.then-x-gt7.either))

pub returns : goal.returns
returns c =
    let whole = c.in-Some.ensures.cases in
    (rw whole.same at c.pair_fits.ensures) ∙ holders_are _ _ _ whole.long (suc-le-suc c.if-x-gt7.false) (suc-le-suc c.if-o-gt63.false)
