-- `is_image` meets its contract: the six parts of the test in order. Assumes nothing.
use Prim.Native.Nat.{ℕ}
use mathlib.Core.Path.{◌≡◌, refl, sym, ap, ◌∙◌}
use mathlib.Core.Bool.{Bool}
use mathlib.Core.List.{List}
use lib.ListN.{length}
use Rattle.bits.specs.Words.{◌and◌}
use Rattle.bits.proofs.Truth.{true_and, false_and, and_assoc}
use Rattle.table.specs.State.{State}
use Rattle.table.specs.Table.{table_length}
use Rattle.table.specs.Separation.{sets_empty}
use Rattle.table.specs.Reading.{state}
use Rattle.table.proofs.Table.{is_table_lem, not_table}
use Rattle.separation.proofs.Sets.{sets_empty_are}
use Rattle.image.specs.Test.{links_fit, permissions_fit, users_fit, objects_fit, levels_fit, is_image, shows_image}
use Rattle.image.proofs.Behind.{went_on, stopped_at}
use Rattle.image.proofs.is_image.Goals as goal
use Rattle.image.proofs.is_image.Goals.{then-links_fit, else-links_fit, then-permissions_fit, else-permissions_fit, then-users_fit, else-users_fit, then-objects_fit, else-objects_fit}

-- the parts as the code joins them: the first two, and with each one more
module _ (S : State) where
  abbrev two : Bool
  two = links_fit S and permissions_fit S

  abbrev three : Bool
  three = two and users_fit S

  abbrev four : Bool
  four = three and objects_fit S

  abbrev five : Bool
  five = four and levels_fit S

all_parts : {r : Bool} (t k : List ℕ) → length t ≡ table_length → k ≡ t → r ≡ five (state k) and sets_empty (state k) → r ≡ shows_image t
unfolding shows_image is_image
all_parts t k l e p =
    let S = state k in
    p ∙ and_assoc (four S) _ _ ∙ and_assoc (three S) _ _ ∙ and_assoc (two S) _ _ ∙ and_assoc _ _ _
    ∙ ap (λ (x : List ℕ). is_image (state x)) e ∙ sym (true_and _ (is_table_lem t l))

pub returns-in_default : goal.returns-in_default
unfolding shows_image
returns-in_default c = sym (false_and _ (not_table _ c.in_default.ensures.cases))

pub returns-then-levels_fit : goal.returns-then-levels_fit
returns-then-levels_fit c =
    let whole = c.in-Some.ensures.cases in
    let S = state c.in-Some.table.now in
    let e2 : c.if-links_fit.value ≡ two S = elim c.if-links_fit.branch [
      | then-links_fit w ↦ went_on w.value-is w.if-links_fit.true c.links_fit.ensures w.permissions_fit.ensures
      | else-links_fit w ↦ stopped_at _ w.value-is w.if-links_fit.false c.links_fit.ensures
    ] in
    let e3 : c.if-permissions_fit.value ≡ three S = elim c.if-permissions_fit.branch [
      | then-permissions_fit w ↦ went_on w.value-is w.if-permissions_fit.true e2 w.users_fit.ensures
      | else-permissions_fit w ↦ stopped_at _ w.value-is w.if-permissions_fit.false e2
    ] in
    let e4 : c.if-users_fit.value ≡ four S = elim c.if-users_fit.branch [
      | then-users_fit w ↦ went_on w.value-is w.if-users_fit.true e3 w.objects_fit.ensures
      | else-users_fit w ↦ stopped_at _ w.value-is w.if-users_fit.false e3
    ] in
    let e5 : c.if-objects_fit.value ≡ five S = elim c.if-objects_fit.branch [
      | then-objects_fit w ↦ went_on w.value-is w.if-objects_fit.true e4 w.levels_fit.ensures
      | else-objects_fit w ↦ stopped_at _ w.value-is w.if-objects_fit.false e4
    ] in
    all_parts _ _ whole.long whole.same (went_on refl c.if-levels_fit.true e5 (c.sets_empty.ensures ∙ sets_empty_are _ (ap length whole.same ∙ whole.long)))

pub returns-else-levels_fit : goal.returns-else-levels_fit
returns-else-levels_fit c =
    let whole = c.in-Some.ensures.cases in
    let S = state c.in-Some.table.now in
    let e2 : c.if-links_fit.value ≡ two S = elim c.if-links_fit.branch [
      | then-links_fit w ↦ went_on w.value-is w.if-links_fit.true c.links_fit.ensures w.permissions_fit.ensures
      | else-links_fit w ↦ stopped_at _ w.value-is w.if-links_fit.false c.links_fit.ensures
    ] in
    let e3 : c.if-permissions_fit.value ≡ three S = elim c.if-permissions_fit.branch [
      | then-permissions_fit w ↦ went_on w.value-is w.if-permissions_fit.true e2 w.users_fit.ensures
      | else-permissions_fit w ↦ stopped_at _ w.value-is w.if-permissions_fit.false e2
    ] in
    let e4 : c.if-users_fit.value ≡ four S = elim c.if-users_fit.branch [
      | then-users_fit w ↦ went_on w.value-is w.if-users_fit.true e3 w.objects_fit.ensures
      | else-users_fit w ↦ stopped_at _ w.value-is w.if-users_fit.false e3
    ] in
    let e5 : c.if-objects_fit.value ≡ five S = elim c.if-objects_fit.branch [
      | then-objects_fit w ↦ went_on w.value-is w.if-objects_fit.true e4 w.levels_fit.ensures
      | else-objects_fit w ↦ stopped_at _ w.value-is w.if-objects_fit.false e4
    ] in
    all_parts _ _ whole.long whole.same (stopped_at _ refl c.if-levels_fit.false e5)
