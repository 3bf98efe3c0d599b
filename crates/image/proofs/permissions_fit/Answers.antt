-- `permissions_fit` meets its contract. Assumes nothing.
use native.Mathlib.Omega.{arith}
use Rattle.image.specs.Image.{permitted_objects}
use Rattle.image.specs.Test.{permissions_fit}
use Rattle.image.proofs.Rows.{words_are, masks_are}
use Rattle.image.proofs.permissions_fit.Goals as goal

pub returns : goal.returns
unfolding permissions_fit
returns c = words_are c.args.t.now 64 8 permitted_objects (let l = c.told-t in omega arith) masks_are c.eq.ensures
