-- `write_seniority` meets its contract. Assumes nothing.
use borrow.Author.Rules.{rules}
use mathlib.Core.Path.{◌∙◌}
use Rattle.table.specs.Reading.{state}
use Rattle.table.proofs.Encode.{encode_state, write_direct}
use Rattle.table.proofs.Overlaying.{write_juniors}
use Rattle.links.proofs.write_seniority.Goals as goal

pub returns : goal.returns
returns c =
    let a = c.args in
    c.overlay.ensures
    ∙ write_juniors _ (write_direct (state a.t.now) (encode_state a.t.now c.told-t) a.r a.direct c.requires) a.rows.now (search rules)
