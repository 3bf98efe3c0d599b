-- `all_fits` meets its contract: each loop has shown of every item that it passed that the item fits. Assumes nothing.
use mathlib.Core.Path.{◌≡◌}
use mathlib.Core.Bool.{true}
use Rattle.bits.specs.Words.{subset}
use Rattle.bits.proofs.Below.{Passed}
use Rattle.table.specs.Reading.{state}
use Rattle.sound.specs.Tests.{role_fits, grants_fit, session_fits}
use Rattle.sound.proofs.all_fits.Given as goal

abbrev pub invariant-loop-r : goal.invariant-loop-r
invariant-loop-r l = Passed (λ r. role_fits (state l.t) r ≡ true) 64 l.r

abbrev pub invariant-loop-x : goal.invariant-loop-x
invariant-loop-x l = Passed (λ x. grants_fit (state l.t) x ≡ true) 8 l.x

abbrev pub invariant-loop-x-2 : goal.invariant-loop-x-2
invariant-loop-x-2 l = Passed (λ x. subset ((state l.t).holds l.s x) ((state l.t).masks l.s x) ≡ true) 8 l.x

abbrev pub invariant-loop-s : goal.invariant-loop-s
invariant-loop-s l = Passed (λ s. session_fits (state l.t) s ((state l.t).masks s) ≡ true) 32 l.s

abbrev pub invariant-test : goal.invariant-test
invariant-test l = Unit {0}

abbrev pub decreases-test : goal.decreases-test
decreases-test l = 0
