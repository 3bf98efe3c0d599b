-- `taken` meets its contract. Assumes nothing.
use mathlib.Core.Path.{◌≡◌, refl, ◌∙◌}
use mathlib.Core.Bool.{Bool, true, false}
use Rattle.std.specs.Prelude.{Some, None}
use Rattle.std.specs.Bool.{then_some}
use Rattle.bits.specs.Words.{when◌then◌else◌}
use Rattle.entries.specs.Words.{taking}
use Rattle.entries.proofs.taken.Goals as goal

then_is : {A : Type 0} (b : Bool) (x : A) → then_some b x ≡ (when b then Some x else None)
unfolding when◌then◌else◌
then_is true x = refl
then_is false x = refl

pub returns : goal.returns
unfolding taking
returns c = c.then_some.ensures ∙ then_is _ c.args.i
