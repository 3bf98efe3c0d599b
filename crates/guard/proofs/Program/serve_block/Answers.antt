-- The goals that are left.
use mathlib.Core.Path.{sym, ap, ◌∙◌}
use lib.ListN.{length-drop}
use native.Mathlib.Omega.{arith}
use borrow.Author.Tests.{eqb-true}
use Rattle.std.proofs.lemmas.List.{take_all, nil_from_length}
use Rattle.ledger.specs.Step.{unguarded}
use Rattle.transcript.specs.Stream.{standing, after}
use Rattle.transcript.proofs.Pieces.{after_none, served_on}
use Rattle.guard.proofs.Program.serve_block.Goals as goal

pub loop-rest-preserved : goal.loop-rest-preserved
loop-rest-preserved c =
    let served = c.serve-read in
    ap (after unguarded (standing served.new.self served.new.kept)) (take_all _ _ (omega (arith, length-drop served.result.read c.loop-rest.rest.now)))
    ∙ served_on unguarded _ _ _ served.ensures.served ∙ c.loop-rest.invariant

pub returns : goal.returns
returns c =
    let p = standing c.loop-rest.self.progress c.loop-rest.self.kept in
    sym (after_none unguarded p) ∙ ap (after unguarded p) (sym (nil_from_length c.loop-rest.rest.now (eqb-true _ _ (sym c.is_empty.ensures ∙ c.loop-rest-test.false)))) ∙ c.loop-rest.invariant
