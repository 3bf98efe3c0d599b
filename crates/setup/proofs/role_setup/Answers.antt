-- `role_setup` meets its contract: the refusals in their order, then the sections that are not 0. Assumes nothing.
use Prim.Native.Nat.{ℕ}
use mathlib.Core.Path.{◌≡◌, refl, sym, ap, ap₂, ◌∙◌}
use mathlib.Core.List.{List}
use borrow.Author.Tests.{ne_eqb}
use Rattle.std.specs.Array.{IsWholeChunk}
use Rattle.std.proofs.lemmas.Option.{MatchOption-at_some, MatchOption-at_none}
use Rattle.bits.proofs.Truth.{false_and, and_false}
use Rattle.bits.specs.Words.{get_or, tabulate}
use Rattle.bits.specs.Sets.{◌without◌}
use Rattle.closure.specs.Closure.{closure, acyclic}
use Rattle.closure.proofs.Closure.{closure_own}
use Rattle.table.specs.Answers.{overlay, cleared_from}
use Rattle.table.proofs.Table.{is_table_lem, not_table}
use Rattle.requests.specs.declared.Refusal.TheVariants.{WrongLength, BadListLength}
use Rattle.requests.proofs.Outcome.{comes_to, both}
use Rattle.requests.proofs.Refusals.{none_refused}
use Rattle.setup.proofs.Fresh.{written_fresh}
use Rattle.setup.proofs.SetUp.{set_up_short, set_up_lists, set_up_cycle, set_up_accepted}
use Rattle.setup.proofs.role_setup.Goals as goal
use Rattle.setup.proofs.role_setup.Goals.{In_ok-table, In_ok-direct, In_ok-permissions}

-- the table and the two lists by their other names, all of the right length
table_is : (c : In_ok-table) → IsWholeChunk c.args.t.now c.in_ok-table.table.now 1352
table_is c = MatchOption-at_some _ _ _ c.in_ok-table.ensures.ok_part c.as_mut_array.ensures.cases

direct_is : (c : In_ok-direct) → IsWholeChunk c.args.direct.now c.in_ok-direct.direct.now 64
direct_is c = MatchOption-at_some _ _ _ c.in_ok-direct.ensures.ok_part c.as_array.ensures.cases

permissions_are : (c : In_ok-permissions) → IsWholeChunk c.args.permissions.now c.in_ok-permissions.permissions.now 8
permissions_are c = MatchOption-at_some _ _ _ c.in_ok-permissions.ensures.ok_part c.as_array-2.ensures.cases

-- the closure of what was given
rows_are : {direct lent given rows : List ℕ} → lent ≡ direct → given ≡ tabulate 64 (λ r. get_or lent r 0 without r) → rows ≡ closure given → rows ≡ closure direct
rows_are s e d = d ∙ ap closure e ∙ closure_own _ ∙ ap closure s

pub returns-in_err-table : goal.returns-in_err-table
returns-in_err-table c =
    let e = c.in_err-table.ensures in
    both (comes_to (set_up_short _ _ _ (not_table _ (MatchOption-at_none _ _ e.ok_part c.as_mut_array.ensures.cases)))
    (record { answer = none_refused _ _ c.from_residual.ensures.1 _ WrongLength e.ok_part e.value; table = refl }))

pub returns-in_err-direct : goal.returns-in_err-direct
returns-in_err-direct c =
    let e = c.in_err-direct.ensures in
    let t = table_is (goal.at.returns-in_err-direct c).In_ok-table in
    both (comes_to (set_up_lists _ _ _ (is_table_lem _ t.long) (false_and _ (ne_eqb _ 64 (MatchOption-at_none _ _ e.ok_part c.as_array.ensures.cases))))
    (record { answer = none_refused _ _ c.from_residual-in_err-direct.ensures.1 _ BadListLength e.ok_part e.value; table = t.same }))

pub returns-in_err-permissions : goal.returns-in_err-permissions
returns-in_err-permissions c =
    let e = c.in_err-permissions.ensures in
    let t = table_is (goal.at.returns-in_err-permissions c).In_ok-table in
    both (comes_to (set_up_lists _ _ _ (is_table_lem _ t.long) (and_false _ (ne_eqb _ 8 (MatchOption-at_none _ _ e.ok_part c.as_array-2.ensures.cases))))
    (record { answer = none_refused _ _ c.from_residual-in_err-permissions.ensures.1 _ BadListLength e.ok_part e.value; table = t.same }))

pub returns-then-not-is_acyclic : goal.returns-then-not-is_acyclic
returns-then-not-is_acyclic c =
    let at = goal.at.returns-then-not-is_acyclic c in
    let t = table_is at.In_ok-table in
    let d = direct_is at.In_ok-direct in
    let p = permissions_are at.In_ok-permissions in
    both (comes_to
    (set_up_cycle _ _ _ (is_table_lem _ t.long) d.long p.long
    (sym (ap acyclic (rows_are d.same c.without_own-given.ensures c.closure_of-rows.ensures)) ∙ sym c.is_acyclic.ensures ∙ c.if-not-is_acyclic.true))
    (record { answer = refl; table = t.same }))

pub returns : goal.returns
returns c =
    let at = goal.at.returns c in
    let t = table_is at.In_ok-table in
    let d = direct_is at.In_ok-direct in
    let p = permissions_are at.In_ok-permissions in
    let a = c.args in
    let rows = rows_are d.same c.without_own-given.ensures c.closure_of-rows.ensures in
    both (comes_to
    (set_up_accepted _ _ _ (is_table_lem _ t.long) d.long p.long (sym (ap acyclic rows) ∙ sym c.is_acyclic.ensures ∙ c.if-not-is_acyclic.false))
    (record {
      answer = refl;
      table =
          c.overlay-3.ensures
          ∙ ap₂ (λ (l v : List ℕ). overlay l 1032 v)
          (c.clear_from.ensures
          ∙ ap (λ (l : List ℕ). cleared_from l 72)
          (c.overlay-2.ensures ∙ ap₂ (λ (l v : List ℕ). overlay l 64 v) (c.overlay.ensures ∙ ap₂ (λ (l v : List ℕ). overlay l 0 v) t.same rows) p.same))
          (c.without_own-given.ensures ∙ ap (λ (l : List ℕ). tabulate 64 (λ r. get_or l r 0 without r)) d.same)
          ∙ written_fresh a.t.now a.direct.now a.permissions.now t.long p.long;
    }))
