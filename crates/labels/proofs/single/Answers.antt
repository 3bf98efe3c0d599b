-- `single` meets its contract. Assumes nothing.
use mathlib.Core.Path.{refl}
use Rattle.labels.proofs.Carrying.{single_carried}
use Rattle.labels.proofs.Replying.{reply}
use Rattle.labels.proofs.single.Goals as goal

pub returns : goal.returns
returns c =
    let done = c.serve in
    reply _ 1 _ (single_carried _ _ _) done.ensures.answer refl done.ensures.table
