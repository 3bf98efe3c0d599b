-- `relink` meets its contract: the closure of the links with the new ones. Assumes nothing.
use Prim.Native.Nat.{ℕ}
use mathlib.Core.Path.{ap, ◌∙◌}
use mathlib.Core.List.{List}
use lib.ListN.{get_or, set}
use Rattle.bits.specs.Words.{upd}
use Rattle.closure.specs.Closure.{closure}
use Rattle.table.specs.Changes.{set_seniority}
use Rattle.table.specs.Reading.{state}
use Rattle.table.specs.Table.{encode}
use Rattle.table.proofs.Encode.{set_tabulate}
use Rattle.links.proofs.relink.Goals as goal

pub returns : goal.returns
returns c =
    let a = c.args in
    let S = state a.t.now in
    c.write_seniority.ensures
    ∙ ap (λ (l : List ℕ). encode (set_seniority S (λ p. get_or l p 0) (upd S.direct a.r a.direct)))
    (c.closure_of-rows.ensures
    ∙ ap (λ (l : List ℕ). closure (set l a.r a.direct)) c.words_from-given.ensures
    ∙ ap closure (set_tabulate 64 S.direct a.r a.direct c.requires))
