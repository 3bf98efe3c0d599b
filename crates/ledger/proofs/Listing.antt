-- What a set-up line does to a list: the laws of `added` and `stored`, case by case. Assumes nothing.
use Prim.Native.Nat.{ℕ, ◌≤◌, ◌<◌}
use mathlib.Core.Path.{◌≡◌, sym, ap, ◌∙◌}
use mathlib.Core.List.{List}
use lib.Dec.{leb}
use lib.ListN.{length, get_or, set}
use lib.Seq.{set_out}
use borrow.Author.Tests.{le-leb, lt-leb}
use Rattle.bits.specs.Words.{◌with◌}
use Rattle.bits.proofs.Truth.{and_intro, false_and, and_false, past, stopped}
use Rattle.requests.specs.Request.{refuse, accept}
use Rattle.ledger.specs.Store.{added, stored}

module _ (l : List ℕ) (last i v : ℕ) where
  pub added_place : last < i → refuse 19 l ≡ added l last i v
  unfolding added
  added_place h = sym (stopped _ _ (false_and _ (lt-leb _ _ h)))

  pub added_value : 63 < v → refuse 19 l ≡ added l last i v
  unfolding added
  added_value h = sym (stopped _ _ (and_false (leb i last) (lt-leb _ _ h)))

  pub added_there : {w : ℕ} → i ≤ last → v ≤ 63 → w ≡ get_or l i 0 with v → accept (set l i w) ≡ added l last i v
  unfolding added
  added_there p h e = ap (λ (w : ℕ). accept (set l i w)) e ∙ sym (past _ _ (and_intro (le-leb _ _ p) (le-leb _ _ h)))

  pub added_past : i ≤ last → v ≤ 63 → length l ≤ i → accept l ≡ added l last i v
  unfolding added
  added_past p h k = ap accept (sym (set_out l i _ k)) ∙ sym (past _ _ (and_intro (le-leb _ _ p) (le-leb _ _ h)))

module _ (l : List ℕ) (i v : ℕ) where
  pub stored_place : 63 < i → refuse 19 l ≡ stored l i v
  unfolding stored
  stored_place h = sym (stopped _ _ (false_and _ (lt-leb _ _ h)))

  pub stored_value : 31 < v → refuse 19 l ≡ stored l i v
  unfolding stored
  stored_value h = sym (stopped _ _ (and_false (leb i 63) (lt-leb _ _ h)))

  pub stored_there : i ≤ 63 → v ≤ 31 → accept (set l i v) ≡ stored l i v
  unfolding stored
  stored_there p h = sym (past _ _ (and_intro (le-leb _ _ p) (le-leb _ _ h)))

  pub stored_past : i ≤ 63 → v ≤ 31 → length l ≤ i → accept l ≡ stored l i v
  unfolding stored
  stored_past p h k = ap accept (sym (set_out l i v k)) ∙ sym (past _ _ (and_intro (le-leb _ _ p) (le-leb _ _ h)))
