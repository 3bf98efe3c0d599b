-- The goals that are left.
use mathlib.Core.Logic.{⊎_elim}
use mathlib.Core.Path.{ap, ◌∙◌}
use native.Mathlib.Omega.{arith}
use lib.Dec.{ltb}
use lib.ListN.{length}
use borrow.Author.Tests.{le-ltb}
use Rattle.bits.proofs.Truth.{and_false, false_and}
use Rattle.table.specs.Reading.{state}
use Rattle.table.specs.Table.{is_table}
use Rattle.table.proofs.Table.{not_table}
use Rattle.table.proofs.Encode.{encode_state}
use Rattle.masks.proofs.Refreshing.{pairing_none, pairing_more, pairing_all, pair_refreshed_lem, pair_left}
use Rattle.masks.proofs.refresh_pair.Goals as goal

pub returns-then-x-gt7 : goal.returns-then-x-gt7
returns-then-x-gt7 c =
    let a = c.args in
    pair_left a.t.now a.x a.o (and_false (is_table a.t.now)
    (⊎_elim (λ p. false_and _ (le-ltb a.x 8 p)) (λ p. and_false (ltb a.x 8) (le-ltb a.o 64 p.1)) c.then-x-gt7.either))

pub returns-in_default : goal.returns-in_default
returns-in_default c = let a = c.args in pair_left a.t.now a.x a.o (false_and _ (not_table a.t.now c.in_default.ensures.cases))

pub loop-s-init : goal.loop-s-init
loop-s-init c =
    let a = c.args in
    let table = c.in-Some.ensures.cases in
    pairing_none (state c.in-Some.table.now) a.x a.o (encode_state _ (ap length table.same ∙ table.long))

pub loop-s-preserved : goal.loop-s-preserved
loop-s-preserved c =
    let l = c.loop-s in
    let a = c.args in
    pairing_more (state c.in-Some.table.now) a.x a.o l.s c.loop-s-test.true (omega arith) (omega arith) l.invariant c.giving-roles.ensures c.overlap.ensures c.put.ensures

pub returns : goal.returns
returns c =
    let l = c.loop-s in
    let a = c.args in
    let table = c.in-Some.ensures.cases in
    let done = rw table.same at (pairing_all (state c.in-Some.table.now) a.x a.o l.s c.loop-s-test.false l.invariant) in
    done ∙ pair_refreshed_lem a.t.now a.x a.o table.long (omega arith) (omega arith)
