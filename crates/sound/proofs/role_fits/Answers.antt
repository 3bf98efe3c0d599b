-- `role_fits` meets its contract. Assumes nothing.
use Prim.Native.Nat.{ℕ}
use mathlib.Core.Path.{sym, ap, ◌≡◌, ◌∙◌}
use mathlib.Core.Bool.{not}
use lib.Dec.{eqb}
use Rattle.bits.specs.Words.{has, pack, ◌with◌}
use Rattle.bits.proofs.Truth.{and_yes, and_no}
use Rattle.bits.proofs.Word.{has_pack}
use Rattle.table.specs.Authority.{covers}
use Rattle.table.specs.Reading.{state}
use Rattle.table.proofs.Table.{is_table_lem}
use Rattle.table.proofs.Answers.{covered_roles_are}
use Rattle.sound.specs.Tests.{role_fits}
use Rattle.sound.proofs.role_fits.Goals as goal
use Rattle.sound.proofs.role_fits.Goals.{After-has}

-- the word that is asked about
below_is : (c : After-has) → let S = state c.args.t.now in c.covered_roles-below.result ≡ pack 64 (covers S (S.direct c.args.r))
below_is c = c.covered_roles-below.ensures ∙ sym (covered_roles_are _ _ (is_table_lem _ c.told-t))

-- whether r is in it
back_is : (c : After-has) → let S = state c.args.t.now in c.has.result ≡ covers S (S.direct c.args.r) c.args.r
back_is c = c.has.ensures ∙ ap (λ (w : ℕ). has w c.args.r) (below_is c) ∙ has_pack _ 64 c.args.r c.requires

pub returns-then-not-has : goal.returns-then-not-has
unfolding role_fits
returns-then-not-has c =
    let told = (goal.at.returns-then-not-has c).After-has in
    ap (λ (w : ℕ). eqb ((state c.args.t.now).juniors c.args.r) w) (c.with.ensures ∙ ap (λ (w : ℕ). w with c.args.r) (below_is told))
    ∙ and_yes (ap not (back_is told)) (ap not c.if-not-has.true)

pub returns-else-not-has : goal.returns-else-not-has
unfolding role_fits
returns-else-not-has c =
    let told = (goal.at.returns-else-not-has c).After-has in
    and_no _ (ap not (back_is told)) (ap not c.if-not-has.false)
