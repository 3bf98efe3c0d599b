-- `spent_on` meets its contract. Assumes nothing.
use mathlib.Core.Path.{◌≡◌, refl, ◌∙◌}
use mathlib.Core.Bool.{true, false}
use mir.Val.{bool_byte}
use Rattle.bits.specs.Words.{leb, when◌then◌else◌}
use Rattle.cases.specs.Cases.{spent_on}
use Rattle.cases.proofs.spent_on.Goals as goal

pub returns : goal.returns
unfolding spent_on when◌then◌else◌
returns c =
    c.from.ensures ∙ elim (leb c.args.answer 1) as (λ b. bool_byte b ≡ when b then 1 else 0) [ true ↦ refl | false ↦ refl ]
