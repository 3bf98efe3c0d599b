-- The set-up's refusals in their order, and what follows them. Assumes nothing.
use Prim.Native.Nat.{ℕ}
use mathlib.Core.Path.{◌≡◌, ◌∙◌}
use mathlib.Core.Bool.{true, false}
use mathlib.Core.List.{List}
use lib.Dec.{eqb}
use lib.ListN.{length}
use borrow.Author.Tests.{eq-eqb}
use Rattle.bits.specs.Words.{◌and◌}
use Rattle.bits.proofs.Truth.{past, stopped, and_intro}
use Rattle.table.specs.Table.{is_table, encode}
use Rattle.requests.specs.Request.{refuse, accept}
use Rattle.closure.specs.Closure.{closure, acyclic}
use Rattle.setup.specs.SetUp.{fresh, role_set_up}

module _ (t direct permissions : List ℕ) where
  pub set_up_short : is_table t ≡ false → role_set_up t direct permissions ≡ refuse 12 t
  unfolding role_set_up
  set_up_short i = stopped _ _ i

  pub set_up_lists : is_table t ≡ true → eqb (length direct) 64 and eqb (length permissions) 8 ≡ false
      → role_set_up t direct permissions ≡ refuse 18 t
  unfolding role_set_up
  set_up_lists i l = past _ _ i ∙ stopped _ _ l

  both_long : length direct ≡ 64 → length permissions ≡ 8 → eqb (length direct) 64 and eqb (length permissions) 8 ≡ true
  both_long d p = and_intro (eq-eqb (length direct) 64 d) (eq-eqb (length permissions) 8 p)

  pub set_up_cycle : is_table t ≡ true → length direct ≡ 64 → length permissions ≡ 8 → acyclic (closure direct) ≡ false
      → role_set_up t direct permissions ≡ refuse 20 t
  unfolding role_set_up
  set_up_cycle i d p a = past _ _ i ∙ past _ _ (both_long d p) ∙ stopped _ _ a

  pub set_up_accepted : is_table t ≡ true → length direct ≡ 64 → length permissions ≡ 8 → acyclic (closure direct) ≡ true
      → role_set_up t direct permissions ≡ accept (encode (fresh direct permissions))
  unfolding role_set_up
  set_up_accepted i d p a = past _ _ i ∙ past _ _ (both_long d p) ∙ past _ _ a
