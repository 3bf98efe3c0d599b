-- Laws of the table's length. Assumes nothing.
use Prim.Native.Nat.{ℕ, ◌<◌, ◌≤◌}
use mathlib.Core.Path.{◌≡◌}
use mathlib.Core.Bool.{true, false}
use mathlib.Core.List.{List}
use lib.Dec.{ltb}
use lib.ListN.{length}
use borrow.Author.Tests.{eq-eqb, ne_eqb, eqb-true, lt-ltb, le-ltb}
use Rattle.bits.specs.Words.{◌and◌}
use Rattle.bits.proofs.Truth.{and_intro, and_false, false_and}
use Rattle.table.specs.Table.{table_length, is_table}

module _ (t : List ℕ) where
  pub is_table_lem : length t ≡ table_length → is_table t ≡ true
  unfolding is_table
  is_table_lem e = eq-eqb (length t) table_length e

  pub not_table : (length t ≡ table_length → ⊥) → is_table t ≡ false
  unfolding is_table
  not_table n = ne_eqb (length t) table_length n

  pub table_length_lem : is_table t ≡ true → length t ≡ table_length
  unfolding is_table
  table_length_lem e = eqb-true (length t) table_length e

  -- a table with an index below n, as the public functions ask it
  pub in_table : (i n : ℕ) → length t ≡ table_length → i < n → is_table t and ltb i n ≡ true
  in_table i n e h = and_intro (is_table_lem e) (lt-ltb i n h)

  pub short_table : (i n : ℕ) → (length t ≡ table_length → ⊥) → is_table t and ltb i n ≡ false
  short_table i n e = false_and _ (not_table e)

  pub past_table : (i n : ℕ) → n ≤ i → is_table t and ltb i n ≡ false
  past_table i n h = and_false (is_table t) (le-ltb i n h)
