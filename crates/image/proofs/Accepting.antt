-- The label set-up's refusals in their order, and what follows them. Assumes nothing.
use Prim.Native.Nat.{ℕ}
use mathlib.Core.Path.{◌≡◌, ◌∙◌}
use mathlib.Core.Bool.{true, false}
use mathlib.Core.List.{List}
use lib.Dec.{eqb}
use lib.ListN.{length}
use borrow.Author.Tests.{eq-eqb}
use Rattle.bits.specs.Words.{◌and◌}
use Rattle.bits.proofs.Truth.{past, stopped, and_intro}
use Rattle.table.specs.Table.{is_table}
use Rattle.requests.specs.Request.{refuse, accept}
use Rattle.image.specs.Image.{image}
use Rattle.machine.specs.Machine.{begin}
use Rattle.image.specs.SetUp.{are_labels, label_set_up}

module _ (t clearances labels : List ℕ) where
  pub set_up_short : is_table t ≡ false → label_set_up t clearances labels ≡ refuse 12 t
  unfolding label_set_up
  set_up_short i = stopped _ _ i

  pub set_up_lists : is_table t ≡ true → eqb (length clearances) 64 and eqb (length labels) 64 ≡ false
      → label_set_up t clearances labels ≡ refuse 18 t
  unfolding label_set_up
  set_up_lists i l = past _ _ i ∙ stopped _ _ l

  both_long : length clearances ≡ 64 → length labels ≡ 64 → eqb (length clearances) 64 and eqb (length labels) 64 ≡ true
  both_long d p = and_intro (eq-eqb (length clearances) 64 d) (eq-eqb (length labels) 64 p)

  pub set_up_values : is_table t ≡ true → length clearances ≡ 64 → length labels ≡ 64 → are_labels clearances and are_labels labels ≡ false
      → label_set_up t clearances labels ≡ refuse 19 t
  unfolding label_set_up
  set_up_values i d p v = past _ _ i ∙ past _ _ (both_long d p) ∙ stopped _ _ v

  pub set_up_accepted : is_table t ≡ true → length clearances ≡ 64 → length labels ≡ 64 → are_labels clearances ≡ true → are_labels labels ≡ true
      → label_set_up t clearances labels ≡ accept (image (begin clearances labels))
  unfolding label_set_up
  set_up_accepted i d p v w = past _ _ i ∙ past _ _ (both_long d p) ∙ past _ _ (and_intro v w)
