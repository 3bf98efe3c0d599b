-- What is claimed of labels and of the machine, each as the answer to a question. proofs/Claims.antt and proofs/Wall.antt prove them.
use Rattle.std.specs.Prelude.{◌↔◌, ◌≤◌, ◌<◌, ◌≡◌}
use Rattle.bits.specs.Words.{ℕ, true, List, has}
use Rattle.requests.specs.Request.{Ask}
use Rattle.machine.specs.declared.Standing.{Standing}
use Rattle.machine.specs.declared.Standing.TheVariants.{Equal, Above, Below, Apart}
use Rattle.machine.specs.Label.{class, brands, stands, equal_or_above}
use Rattle.machine.specs.Machine.{Machine, step}
use Rattle.machine.specs.Wall.{trace, Carried}

-- 01: label a dominates b when a's class is at least b's and a's set holds all of b's
pub record Dominates (a b : ℕ) : Type 0 where
  pub class_least : class b ≤ class a
  pub set_holds : (i : ℕ) → has (brands b) i ≡ true → has (brands a) i ≡ true

-- 02, S-2: equal labels are the same number; above means that the first dominates and they differ, below the reverse, apart
-- that neither dominates
abbrev pub Means : Standing → ℕ → ℕ → Type 0
Means Equal a b = a ≡ b
Means Above a b = Dominates a b × (a ≡ b → ⊥)
Means Below a b = Dominates b a × (b ≡ a → ⊥)
Means Apart a b = (Dominates a b → ⊥) × (Dominates b a → ⊥)

-- How do two labels stand? In each of the four ways exactly where what it means holds; the first is below the second exactly
-- where the second is above the first; and equal or above is what 01 calls dominates.
pub record StandsMeans : Type 0 where
  pub exactly : (a b : ℕ) (w : Standing) → stands a b ≡ w ↔ Means w a b
  pub turned : (a b : ℕ) → stands a b ≡ Below ↔ stands b a ≡ Above
  pub dominates : (a b : ℕ) → equal_or_above (stands a b) ≡ true ↔ Dominates a b

-- one of the four holds of two labels, and no other
pub record OneOfFour (a b : ℕ) : Type 0 where
  pub standing : Standing
  pub holds : Means standing a b
  pub alone : (w : Standing) → Means w a b → w ≡ standing

-- How many of the four hold of two labels? Exactly one.
abbrev pub StandOneWay : Type 0
StandOneWay = (a b : ℕ) → OneOfFour a b

-- Is dominance a partial order of the labels? It is reflexive, transitive and antisymmetric.
pub record PartialOrder : Type 0 where
  pub reflexive : (a : ℕ) → equal_or_above (stands a a) ≡ true
  pub transitive : (a b c : ℕ) → equal_or_above (stands a b) ≡ true → equal_or_above (stands b c) ≡ true → equal_or_above (stands a c) ≡ true
  pub antisymmetric : (a b : ℕ) → equal_or_above (stands a b) ≡ true → equal_or_above (stands b a) ≡ true → a ≡ b

-- Case I of 01: 17 and 18 are apart; 31 dominates all; 0 only itself.
pub record CaseI : Type 0 where
  pub apart : stands 17 18 ≡ Apart
  pub top : (a : ℕ) → a < 32 → equal_or_above (stands 31 a) ≡ true
  pub bottom : (a : ℕ) → a < 32 → equal_or_above (stands 0 a) ≡ true ↔ a ≡ 0

-- Does the machine keep rival columns apart? From any state and under any list of requests no column is carried, by the lives that
-- begin in the list, into one whose label does not dominate its own.
abbrev pub Walled : Type 0
Walled = (m : Machine) (qs : List Ask) (c d : ℕ) → Carried (trace step m qs) c d → equal_or_above (stands (m.label d) (m.label c)) ≡ true
