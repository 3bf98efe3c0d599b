-- What `session_step` is, by the code. Assumes nothing.
use Prim.Native.Nat.{ℕ, ◌≤◌}
use mathlib.Core.Path.{◌≡◌, sym, ◌∙◌}
use mathlib.Core.Bool.{true}
use mathlib.Core.List.{List}
use lib.Dec.{leb}
use borrow.Author.Tests.{le-leb, leb-true, leb-false}
use Rattle.bits.proofs.Truth.{by_truth, if_true, if_false, is_false, and_intro, and_left, and_right, false_and}
use Rattle.requests.specs.Request.{Ask, refuse}
use Rattle.table.specs.Table.{is_table}
use Rattle.rbac.specs.Guard.{allowed_sound, changed_sound, sound_step}
use Rattle.rbac.proofs.Codes.{code_below}
use Rattle.rbac.proofs.Guarding.{sound_step_table, checked_code}
use Rattle.sessions.specs.Sessions.{session_step}

module _ (t : List ℕ) (q : Ask) where
  pub session_step_lem : 1 ≤ q.code → q.code ≤ 6 → session_step t q ≡ sound_step t q
  unfolding session_step
  session_step_lem l h = if_true _ _ (and_intro (le-leb 1 q.code l) (le-leb q.code 6 h))

  pub session_other : (1 ≤ q.code → q.code ≤ 6 → ⊥) → session_step t q ≡ refuse 15 t
  unfolding session_step
  session_other none = if_false _ _ (is_false (λ e. none (leb-true 1 q.code (and_left _ _ e)) (leb-true q.code 6 (and_right _ _ e))))

  -- on a table a code up to 6 comes to what the role guard answers, also where it is 0
  pub session_below : is_table t ≡ true → q.code ≤ 6 → session_step t q ≡ sound_step t q
  unfolding session_step
  session_below i h =
      by_truth (leb 1 q.code)
      (λ l. session_step_lem (leb-true 1 q.code l) h)
      (λ l. if_false _ _ (false_and _ l)
      ∙ sym (sound_step_table t q i ∙ checked_code allowed_sound changed_sound t q (code_below q (leb-false 1 q.code l))))
