-- What `administration_step` is, by the code. Assumes nothing.
use Prim.Native.Nat.{ℕ, ◌≤◌, ◌<◌}
use mathlib.Core.Path.{◌≡◌, sym, ◌∙◌}
use mathlib.Core.Bool.{true}
use mathlib.Core.List.{List}
use lib.Dec.{leb}
use borrow.Author.Tests.{le-leb, leb-true, leb-false}
use Rattle.bits.proofs.Truth.{by_truth, if_true, if_false, is_false, and_intro, and_left, and_right, and_false}
use Rattle.requests.specs.Request.{Ask, refuse}
use Rattle.table.specs.Table.{is_table}
use Rattle.rbac.specs.Guard.{allowed_sound, changed_sound, sound_step}
use Rattle.rbac.proofs.Codes.{code_above}
use Rattle.rbac.proofs.Guarding.{sound_step_table, checked_code}
use Rattle.administration.specs.Administration.{administration_step}

module _ (t : List ℕ) (q : Ask) where
  pub administration_step_lem : 7 ≤ q.code → q.code ≤ 14 → administration_step t q ≡ sound_step t q
  unfolding administration_step
  administration_step_lem l h = if_true _ _ (and_intro (le-leb 7 q.code l) (le-leb q.code 14 h))

  pub administration_other : (7 ≤ q.code → q.code ≤ 14 → ⊥) → administration_step t q ≡ refuse 15 t
  unfolding administration_step
  administration_other none = if_false _ _ (is_false (λ e. none (leb-true 7 q.code (and_left _ _ e)) (leb-true q.code 14 (and_right _ _ e))))

  -- on a table a code above 6 comes to what the role guard answers, also where it is none
  pub administration_above : is_table t ≡ true → 6 < q.code → administration_step t q ≡ sound_step t q
  unfolding administration_step
  administration_above i l =
      by_truth (leb q.code 14)
      (λ h. administration_step_lem l (leb-true q.code 14 h))
      (λ h. if_false _ _ (and_false _ h)
      ∙ sym (sound_step_table t q i ∙ checked_code allowed_sound changed_sound t q (code_above q (leb-false q.code 14 h))))
