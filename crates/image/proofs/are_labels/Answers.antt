-- `are_labels` meets its contract. Assumes nothing.
use Prim.Native.Nat.{◌<◌}
use mathlib.Core.Path.{◌≡◌}
use mathlib.Core.Bool.{true}
use native.Mathlib.Omega.{arith}
use borrow.Author.Tests.{ltb-true, lt-ltb}
use lib.ListN.{get_or}
use Rattle.std.specs.Prelude.{◌↔◌, EachIndex}
use Rattle.std.proofs.Common.{rules}
use Rattle.bits.proofs.Truth.{same_truth}
use Rattle.bits.proofs.Below.{all_intro, all_elim}
use Rattle.image.specs.SetUp.{are_labels}
use Rattle.image.proofs.are_labels.Goals as goal

pub returns : goal.returns
unfolding are_labels
returns c =
    let each : c.all.result ≡ true ↔ EachIndex c.args.values.now (λ i. get_or c.args.values.now i 0 < 32) = search rules in
    let long = c.told-values in
    same_truth
    (λ e. all_intro _ 64 (λ i l. lt-ltb _ 32 (each.0 e i (omega arith))))
    (λ e. each.1 (λ i l. ltb-true _ 32 (all_elim _ 64 e i (omega arith))))
