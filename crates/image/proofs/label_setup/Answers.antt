-- `label_setup` meets its contract: the refusals in their order, then the image. Assumes nothing.
use mathlib.Core.Path.{◌≡◌, refl, sym, ap₂, ◌∙◌}
use mathlib.Core.List.{List}
use Prim.Native.Nat.{ℕ}
use borrow.Author.Tests.{ne_eqb}
use Rattle.std.specs.Array.{IsWholeChunk}
use Rattle.std.proofs.lemmas.Option.{MatchOption-at_some, MatchOption-at_none}
use Rattle.bits.specs.Words.{◌and◌}
use Rattle.bits.proofs.Truth.{false_and, and_false, and_left, and_right}
use Rattle.table.proofs.Table.{is_table_lem, not_table}
use Rattle.requests.specs.declared.Refusal.TheVariants.{WrongLength, BadListLength}
use Rattle.requests.proofs.Outcome.{comes_to, both}
use Rattle.requests.proofs.Refusals.{none_refused}
use Rattle.image.specs.Image.{image}
use Rattle.machine.specs.Machine.{begin}
use Rattle.image.specs.SetUp.{are_labels}
use Rattle.image.proofs.Behind.{went_on, stopped_at}
use Rattle.image.proofs.Accepting.{set_up_short, set_up_lists, set_up_values, set_up_accepted}
use Rattle.image.proofs.label_setup.Goals as goal
use Rattle.image.proofs.label_setup.Goals.{In_ok-table, In_ok-clearances, In_ok-labels, then-are_labels, else-are_labels}

-- the table and the two lists by their other names, all of the right length
table_is : (c : In_ok-table) → IsWholeChunk c.args.t.now c.in_ok-table.table.now 1352
table_is c = MatchOption-at_some _ _ _ c.in_ok-table.ensures.ok_part c.as_mut_array.ensures.cases

clearances_are : (c : In_ok-clearances) → IsWholeChunk c.args.clearances.now c.in_ok-clearances.clearances.now 64
clearances_are c = MatchOption-at_some _ _ _ c.in_ok-clearances.ensures.ok_part c.as_array.ensures.cases

labels_are : (c : In_ok-labels) → IsWholeChunk c.args.labels.now c.in_ok-labels.labels.now 64
labels_are c = MatchOption-at_some _ _ _ c.in_ok-labels.ensures.ok_part c.as_array-2.ensures.cases

same_lists : {k k' l l' : List ℕ} → k ≡ k' → l ≡ l' → are_labels k and are_labels l ≡ are_labels k' and are_labels l'
same_lists e d = ap₂ (λ (k l : List ℕ). are_labels k and are_labels l) e d

pub returns-in_err-table : goal.returns-in_err-table
returns-in_err-table c =
    let e = c.in_err-table.ensures in
    both (comes_to (set_up_short _ _ _ (not_table _ (MatchOption-at_none _ _ e.ok_part c.as_mut_array.ensures.cases)))
    (record { answer = none_refused _ _ c.from_residual.ensures.1 _ WrongLength e.ok_part e.value; table = refl }))

pub returns-in_err-clearances : goal.returns-in_err-clearances
returns-in_err-clearances c =
    let e = c.in_err-clearances.ensures in
    let t = table_is (goal.at.returns-in_err-clearances c).In_ok-table in
    both (comes_to (set_up_lists _ _ _ (is_table_lem _ t.long) (false_and _ (ne_eqb _ 64 (MatchOption-at_none _ _ e.ok_part c.as_array.ensures.cases))))
    (record { answer = none_refused _ _ c.from_residual-in_err-clearances.ensures.1 _ BadListLength e.ok_part e.value; table = t.same }))

pub returns-in_err-labels : goal.returns-in_err-labels
returns-in_err-labels c =
    let e = c.in_err-labels.ensures in
    let t = table_is (goal.at.returns-in_err-labels c).In_ok-table in
    both (comes_to (set_up_lists _ _ _ (is_table_lem _ t.long) (and_false _ (ne_eqb _ 64 (MatchOption-at_none _ _ e.ok_part c.as_array-2.ensures.cases))))
    (record { answer = none_refused _ _ c.from_residual-in_err-labels.ensures.1 _ BadListLength e.ok_part e.value; table = t.same }))

pub returns-then-not-are_labels : goal.returns-then-not-are_labels
returns-then-not-are_labels c =
    let at = goal.at.returns-then-not-are_labels c in
    let t = table_is at.In_ok-table in
    let d = clearances_are at.In_ok-clearances in
    let p = labels_are at.In_ok-labels in
    let known : c.if-are_labels.value ≡ are_labels c.in_ok-clearances.clearances.now and are_labels c.in_ok-labels.labels.now = elim c.if-are_labels.branch [
      | then-are_labels w ↦ went_on w.value-is w.if-are_labels.true c.are_labels.ensures w.are_labels-then-are_labels.ensures
      | else-are_labels w ↦ stopped_at _ w.value-is w.if-are_labels.false c.are_labels.ensures
    ] in
    both (comes_to (set_up_values _ _ _ (is_table_lem _ t.long) d.long p.long (sym (same_lists d.same p.same) ∙ sym known ∙ c.if-not-are_labels.true))
    (record { answer = refl; table = t.same }))

pub returns : goal.returns
returns c =
    let at = goal.at.returns c in
    let t = table_is at.In_ok-table in
    let d = clearances_are at.In_ok-clearances in
    let p = labels_are at.In_ok-labels in
    let known : c.if-are_labels.value ≡ are_labels c.in_ok-clearances.clearances.now and are_labels c.in_ok-labels.labels.now = elim c.if-are_labels.branch [
      | then-are_labels w ↦ went_on w.value-is w.if-are_labels.true c.are_labels.ensures w.are_labels-then-are_labels.ensures
      | else-are_labels w ↦ stopped_at _ w.value-is w.if-are_labels.false c.are_labels.ensures
    ] in
    let both_known = sym (same_lists d.same p.same) ∙ sym known ∙ c.if-not-are_labels.false in
    both (comes_to (set_up_accepted _ _ _ (is_table_lem _ t.long) d.long p.long (and_left _ _ both_known) (and_right _ _ both_known))
    (record { answer = refl; table = c.write_image.ensures ∙ ap₂ (λ (k l : List ℕ). image (begin k l)) d.same p.same }))
