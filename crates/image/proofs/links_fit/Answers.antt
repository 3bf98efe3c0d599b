-- `links_fit` meets its contract. Assumes nothing.
use native.Mathlib.Omega.{arith}
use Rattle.image.specs.Test.{links_fit}
use Rattle.image.proofs.Rows.{words_are, linked, rows_are}
use Rattle.image.proofs.links_fit.Goals as goal

pub returns : goal.returns
unfolding links_fit
returns c = words_are c.args.t.now 1032 64 linked (let l = c.told-t in omega arith) rows_are c.eq.ensures
