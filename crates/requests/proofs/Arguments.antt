-- Arguments that are at most their largest values. Assumes nothing.
use Prim.Native.Nat.{ℕ, ◌≤◌}
use mathlib.Core.Path.{◌≡◌}
use mathlib.Core.Bool.{Bool, true}
use mathlib.Core.List.{List}
use lib.Dec.{leb}
use lib.ListN.{get_or}
use borrow.Author.Tests.{leb-true, le-leb}
use Rattle.bits.proofs.Truth.{and_intro, and_left, and_right}
use Rattle.requests.specs.Request.{ask, within}

-- an argument that passed is below what comes after its largest value
pub record Within (a b c : ℕ) (largest : List ℕ) : Type 0 where
  pub first : a ≤ get_or largest 0 0
  pub second : b ≤ get_or largest 1 0
  pub third : c ≤ get_or largest 2 0

pub within_elim : (code a b c : ℕ) (largest : List ℕ) → within largest (ask code a b c) ≡ true → Within a b c largest
unfolding within
within_elim code a b c largest e =
    let e' = and_right (leb a (get_or largest 0 0)) _ e in
    record {
      first = leb-true a (get_or largest 0 0) (and_left _ _ e);
      second = leb-true b (get_or largest 1 0) (and_left _ _ e');
      third = leb-true c (get_or largest 2 0) (and_right _ _ e');
    }

-- arguments within a row of limits, of whatever code
pub within_row : {r : Bool} {largest row : List ℕ} (code a b c : ℕ) → r ≡ within largest (ask 0 a b c) → largest ≡ row
    → r ≡ within row (ask code a b c)
unfolding within
within_row code a b c w e = rw e at w

pub within_intro : (largest : List ℕ) (code a b c : ℕ) → a ≤ get_or largest 0 0 → b ≤ get_or largest 1 0 → c ≤ get_or largest 2 0
    → within largest (ask code a b c) ≡ true
unfolding within
within_intro largest code a b c h k l = and_intro (le-leb _ _ h) (and_intro (le-leb _ _ k) (le-leb _ _ l))
