-- The label guard's refusals in their order, and what follows them. Assumes nothing.
use Prim.Native.Nat.{ℕ, ◌≤◌}
use mathlib.Core.Path.{◌≡◌, ◌∙◌}
use mathlib.Core.Bool.{true, false}
use mathlib.Core.List.{List}
use lib.ListN.{length}
use borrow.Author.Tests.{le-leb}
use Rattle.bits.proofs.Truth.{is_false, past, stopped, and_intro}
use Rattle.table.specs.Sound.{sound}
use Rattle.table.specs.Reading.{state}
use Rattle.table.specs.Table.{table_length, is_table}
use Rattle.table.proofs.Table.{is_table_lem}
use Rattle.requests.specs.Request.{Ask, ask, refuse}
use Rattle.rbac.specs.Guard.{role_step, sound_step}
use Rattle.rbac.proofs.Codes.{NoneOf, none_left}
use Rattle.machine.specs.Machine.{is_code, in_range, decode}
use Rattle.machine.proofs.Steps.{code_elim}
use Rattle.image.specs.Test.{is_image}
use Rattle.labels.specs.Guard.{RoleGuard, plan, carry_out, translated, label_step, image_step}

-- ---- the code

module _ (q : Ask) where
  pub is_code_lem : 1 ≤ q.code → q.code ≤ 5 → is_code q ≡ true
  unfolding is_code
  is_code_lem l h = and_intro (le-leb 1 q.code l) (le-leb q.code 5 h)

  pub no_code : NoneOf 0 5 q.code → is_code q ≡ false
  no_code k = is_false (λ e. none_left 0 5 k (code_elim q e))

-- ---- refusals

module _ (guard : RoleGuard) (t : List ℕ) (q : Ask) where
  pub translated_code : is_code q ≡ false → translated guard t q ≡ refuse 15 t
  unfolding translated
  translated_code c = stopped _ _ c

  pub translated_argument : is_code q ≡ true → in_range q ≡ false → translated guard t q ≡ refuse 16 t
  unfolding translated
  translated_argument c r = past _ _ c ∙ stopped _ _ r

  pub translated_plan : is_code q ≡ true → in_range q ≡ true → translated guard t q ≡ carry_out guard t (plan guard t (decode q))
  unfolding translated
  translated_plan c r = past _ _ c ∙ past _ _ r

module _ (t : List ℕ) (q : Ask) where
  pub image_step_short : is_table t ≡ false → image_step t q ≡ refuse 12 t
  unfolding image_step
  image_step_short i = stopped _ _ i

  pub image_step_table : is_table t ≡ true → image_step t q ≡ translated sound_step t q
  unfolding image_step
  image_step_table i = past _ _ i

  pub label_step_short : is_table t ≡ false → label_step t q ≡ refuse 12 t
  unfolding label_step
  label_step_short i = stopped _ _ i

  pub label_step_unsound : is_table t ≡ true → sound (state t) ≡ false → label_step t q ≡ refuse 13 t
  unfolding label_step
  label_step_unsound i s = past _ _ i ∙ stopped _ _ s

  pub label_step_none : is_table t ≡ true → sound (state t) ≡ true → is_image (state t) ≡ false → label_step t q ≡ refuse 14 t
  unfolding label_step
  label_step_none i s n = past _ _ i ∙ past _ _ s ∙ stopped _ _ n

  pub label_step_image : is_table t ≡ true → sound (state t) ≡ true → is_image (state t) ≡ true → label_step t q ≡ translated role_step t q
  unfolding label_step
  label_step_image i s n = past _ _ i ∙ past _ _ s ∙ past _ _ n

-- ---- past refusals 12, 15 and 16

module _ (t : List ℕ) (code a b c : ℕ) (e : length t ≡ table_length) (l : 1 ≤ code) (h : code ≤ 5) (i : in_range (ask code a b c) ≡ true) where
  pub image_step_plan : image_step t (ask code a b c) ≡ carry_out sound_step t (plan sound_step t (decode (ask code a b c)))
  image_step_plan =
      image_step_table t (ask code a b c) (is_table_lem t e)
      ∙ translated_plan sound_step t (ask code a b c) (is_code_lem (ask code a b c) l h) i
